-- A chip whose ranks make their events one after the other, each in its turns (this project's profile).
use Rattle.std.specs.Prelude.{◌≡◌, ℕ, ◌-◌, ◌<◌, List, [], ◌++◌, length, map, take}
use Rattle.std.specs.Coded.{code_by, coded×, coded_ℕ}
use base.Stored.{Coded, coded_list, gnil}
use mathlib.Core.Path.{refl}
use Rattle.scc_base.specs.Setups.{SetupView, IsSetup}
use Rattle.scc_base.specs.contracts.events.Event.{the_row}
use Rattle.scc_base.specs.declared.events.Event.{Event}
use Rattle.scc_proto.specs.Words.{zeros, IsStep, IsRun, RankEvent}
use Rattle.scc_proto.specs.Stages.{blank}
use Rattle.scc_proto.specs.Histories.{IsPermittedRun, events_of, memory_from}
use Rattle.scc_proto.specs.Ports.{Seat, Sight}

-- a chip: its setup, the rank whose turn it is, the events of all ranks before this turn, and those of the rank since
pub record TurnChipView : Type 0 where
  pub setup : SetupView
  pub rank : ℕ
  pub before : List RankEvent
  pub own : List Event

-- an event of a rank
abbrev pub of_rank : ℕ → Event → RankEvent
of_rank r e = record { rank = r; event = e }

-- events of one rank
abbrev pub of_rank_all : ℕ → List Event → List RankEvent
of_rank_all r events = map (of_rank r) events

-- the events of all ranks, in the order in which they were made
abbrev pub all_events : TurnChipView → List RankEvent
all_events chip = chip.before ++ of_rank_all chip.rank chip.own

-- a chip on which no event was made
abbrev pub new_chip : SetupView → ℕ → TurnChipView
new_chip s r = record { setup = s; rank = r; before = []; own = [] }

-- the chip once it is the turn of a rank
abbrev pub with_turn : TurnChipView → ℕ → TurnChipView
with_turn chip r = record { setup = chip.setup; rank = r; before = all_events chip; own = [] }

-- the events before those of the present turn
abbrev pub before_of : List RankEvent → List Event → List RankEvent
before_of all own = take (length all - length own) all

-- the chip with these events of all ranks, the last of which are those of the present turn
abbrev pub chip_view : SetupView → ℕ → List RankEvent → List Event → TurnChipView
chip_view s r all own = record { setup = s; rank = r; before = before_of all own; own = own }

-- each event of all ranks was a step of the words as those before it left them, and permitted by the record of its rank; the last
-- of them are those of the present turn
pub record IsTurnChip (s : SetupView) (r : ℕ) (all : List RankEvent) (own : List Event) : Type 0 where
  pub valid : IsSetup s
  pub below : r < s.nue
  pub run : IsRun zeros all
  pub permitted : IsPermittedRun s (λ r. blank) all
  pub ends : all ≡ before_of all own ++ of_rank_all r own

-- how an event of a rank is coded as a number
abbrev pub event_coded : Coded RankEvent
event_coded = code_by (ℕ × Event) (coded× coded_ℕ the_row.coded) (λ (e : RankEvent). (e.rank, e.event)) (λ p. of_rank p.0 p.1) (λ _. refl)

-- how the events before a turn are coded as a number
abbrev pub run_coded : Coded (List RankEvent)
run_coded = coded_list event_coded

-- the port of the rank whose turn it is
abbrev pub turn_sight : TurnChipView → Sight
turn_sight chip = record {
  seat = record { setup = chip.setup; rank = chip.rank; mark = gnil; rest = run_coded.code chip.before; hold = 0 };
  events = events_of chip.rank chip.before ++ chip.own;
}

-- an event of a port's rank was a step of the words, made after all events before its turn and these own ones
pub record WasStepHere (seat : Seat) (events : List Event) (e : Event) : Type 0 where
  pub before : List RankEvent
  pub own : List Event
  pub rest : seat.rest ≡ run_coded.code before
  pub list : events ≡ events_of seat.rank before ++ own
  pub step : IsStep (memory_from zeros (before ++ of_rank_all seat.rank own)) e
