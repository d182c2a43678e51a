-- What a witness has seen of a run (this project's profile).
use Rattle.std.specs.Prelude.{◌≡◌, ◌≢◌, ℕ, List, []}
use Rattle.scc_base.specs.Setups.{SetupView}
use Rattle.scc_proto.specs.Histories.{events_of}
use Rattle.scc_proto.specs.Ports.{Sight}
use Rattle.scc_proto.specs.Words.{RankEvent}
use Rattle.scc_mesh.specs.Scenes.{ChipView, about_in, events_in, view_coded}
use Rattle.scc_mesh.specs.SeatViews.{SeatView, list_at}

-- a list of events that was told (`told` says so) has the events of a chip: those of each rank are the rank's own, in order
pub record ToldAll (told : List RankEvent → Type 0) (chip : ChipView) : Type 0 where
  pub run : List RankEvent
  pub noted : told run
  pub each : (rank : ℕ) → events_of rank run ≡ events_in chip rank

-- the same, as a port of a rank shows it: those of its rank are the port's, those of each other rank are the list that the port has
-- of it
pub record ToldAt (told : List RankEvent → Type 0) (sight : Sight) : Type 0 where
  pub run : List RankEvent
  pub noted : told run
  pub own : events_of sight.seat.rank run ≡ sight.events
  pub resting : SeatView
  pub rest : sight.seat.rest ≡ view_coded.code resting
  pub others : (rank : ℕ) → rank ≢ sight.seat.rank → events_of rank run ≡ list_at resting rank

-- who was told so, of a chip with this setup, was told the events of the chip
pub record HasSeenAll (s : SetupView) (told : List RankEvent → Type 0) (chip : ChipView) : Type 0 where
  pub setup_is : s ≡ about_in chip
  pub seen : ∥ ToldAll told chip ∥₁

-- and what a port shows of them
pub record HasSeen (s : SetupView) (told : List RankEvent → Type 0) (sight : Sight) : Type 0 where
  pub setup_is : s ≡ sight.seat.setup
  pub seen : ∥ ToldAt told sight ∥₁

-- nothing was told
abbrev pub nothing_told : List RankEvent → Type 0
nothing_told run = run ≡ []

-- after each list of events after which more was wanted before, it still is said to have been
abbrev pub StillWanted : (List RankEvent → Type 0) → (List RankEvent → Type 0) → Type 0
StillWanted before after = ∥ ((run : List RankEvent) → before run → after run) ∥₁
