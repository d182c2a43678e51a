-- What a chip, a token and a port are to a contract.
use Rattle.std.specs.Prelude.{◌≡◌, ℕ, ◌<◌, ◌≤◌, List, [], Option, Some, None, Bool, true, false, ◌&&◌, nat_lt, length}
use Rattle.std.specs.Coded.{coded_option}
use base.Stored.{Gv, Coded, coded_list}
use Rattle.atomic_table.specs.Seated.{table_id_coded}
use Rattle.scc_base.specs.Setups.{SetupView}
use Rattle.scc_base.specs.contracts.events.Event.{the_row}
use Rattle.scc_base.specs.declared.events.Event.{Event}
use Rattle.scc_base.specs.declared.layouts.Layout.TheVariants.{LineFlags}
use Rattle.scc_proto.specs.Stages.{Record}
use Rattle.scc_proto.specs.Words.{Memory}
use Rattle.scc_proto.specs.Ports.{Seat, Sight}
use Rattle.scc_mesh.specs.SeatViews.{SeatView, events_of_rank, list_at, IsKnown, without}
use Rattle.scc_mesh.specs.AwayRanks.{Ticket}
use Rattle.scc_mesh.specs.Keeping.{WasStep, Together, Knows, records_by}
use Rattle.scc_mesh.specs.Spaces.{ChipId}

-- an open chip: its setup, which chip it is, and the lists of the ranks that are at home
pub record Scene : Type 0 where
  pub about : SetupView
  pub table : ChipId
  pub home : SeatView

-- a chip is blank, or open
abbrev pub ChipView : Type 0
ChipView = Option Scene

-- the setup of a chip that is blank: no ranks
abbrev pub no_setup : SetupView
no_setup = record { nue = 0; layout = LineFlags; hosts = []; comms = [] }

-- the name of the table of a chip that is blank
abbrev pub blank_table : ChipId
blank_table = record { words = 0; slots = 0; views_name = 0; atom = 0; block = 0; offset = 0; slot_names = [] }

-- the chip's setup
abbrev pub about_in : ChipView → SetupView
about_in None = no_setup
about_in (Some scene) = scene.about

-- which chip it is
abbrev pub table_in : ChipView → ChipId
table_in None = blank_table
table_in (Some scene) = scene.table

-- the lists of the ranks at home
abbrev pub home_in : ChipView → SeatView
home_in None = []
home_in (Some scene) = scene.home

-- the chip with these lists of ranks at home
abbrev pub with_home : ChipView → SeatView → ChipView
with_home None home = None
with_home (Some scene) home = Some (record scene { home = home })

-- the events of a rank at home
abbrev pub events_in : ChipView → ℕ → List Event
events_in chip r = list_at (home_in chip) r

-- the record of each rank at home
abbrev pub records_in : ChipView → ℕ → Record
records_in chip = records_by (about_in chip) (events_in chip)

-- whether a chip has words
abbrev pub is_chip_open : ChipView → Bool
is_chip_open None = false
is_chip_open (Some scene) = true

-- the chip is open
abbrev pub IsOpen : ChipView → Type 0
IsOpen chip = is_chip_open chip ≡ true

-- the chip is open, and the rank is at home
abbrev pub IsHome : ChipView → ℕ → Type 0
IsHome chip r = IsKnown (home_in chip) r

-- the chip is open, and all its ranks are at home
pub record IsWhole (chip : ChipView) : Type 0 where
  pub opened : IsOpen chip
  pub home : (r : ℕ) → r < (about_in chip).nue → IsHome chip r

-- an open chip with a place for each rank: the ranks from one on are at home
pub record IsHomeFrom (chip : ChipView) (n : ℕ) : Type 0 where
  pub opened : IsOpen chip
  pub room : (about_in chip).nue ≤ length (home_in chip)
  pub home : (r : ℕ) → n ≤ r → r < (about_in chip).nue → IsHome chip r

-- or the ranks below one are
pub record IsHomeBelow (chip : ChipView) (n : ℕ) : Type 0 where
  pub opened : IsOpen chip
  pub room : (about_in chip).nue ≤ length (home_in chip)
  pub home : (r : ℕ) → r < n → IsHome chip r

-- whether the rank is at home
abbrev pub is_at_home : Option (List Event) → Bool
is_at_home None = false
is_at_home (Some events) = true

-- whether a port of the rank can be on the chip
abbrev pub is_port_of : ChipView → ℕ → Bool
is_port_of chip r = is_chip_open chip && (is_at_home (events_of_rank (home_in chip) r) && nat_lt r (about_in chip).nue)

-- a chip that was just opened: all ranks are at home and have made no event
pub record IsNew (s : SetupView) (chip : ChipView) : Type 0 where
  pub about : about_in chip ≡ s
  pub whole : IsWhole chip
  pub empty : (r : ℕ) → events_in chip r ≡ []

-- what a chip's seat knows
abbrev pub KnowsHome : ChipView → Type 0
KnowsHome None = Unit {0}
KnowsHome (Some scene) = Knows scene.about scene.home × (length scene.home ≡ scene.about.nue)

-- how what a seat knows is coded as a number: a list of lists of events, by rank
abbrev pub view_coded : Coded SeatView
view_coded = coded_list (coded_option (coded_list the_row.coded))

-- which chip, as a port tells it
abbrev pub mark_of : ChipId → Gv
mark_of table = table_id_coded.code table

-- the lists of the other ranks, where they rest at home meanwhile
abbrev pub rest_of_seats : SeatView → ℕ → Gv
rest_of_seats home r = view_coded.code (without home r)

-- a port of a chip with the name of the chip that it holds, at a rank
abbrev pub sight_in : ChipView → ℕ → ℕ → Sight
sight_in chip r hold = record {
  seat = record { setup = about_in chip; rank = r; mark = mark_of (table_in chip); rest = rest_of_seats (home_in chip) r; hold = hold };
  events = events_in chip r;
}

-- a port of a rank that is away
abbrev pub sight_away : SetupView → Ticket → Sight
sight_away s ticket = record {
  seat = record { setup = s; rank = ticket.rank; mark = mark_of ticket.table; rest = rest_of_seats [] ticket.rank; hold = 0 };
  events = ticket.events;
}

-- all ranks are at home, and their events agree with a memory
pub record AgreesAtHome (chip : ChipView) : Type 0 where
  pub memory : Memory
  pub together : Together (about_in chip) memory (events_in chip)

-- an event of a port's rank was a step, made while the other ranks that rest had these lists
pub record WasSeatStep (seat : Seat) (events : List Event) (e : Event) : Type 0 where
  pub resting : SeatView
  pub rest : seat.rest ≡ view_coded.code resting
  pub step : WasStep seat.setup resting seat.rank events e
