-- A judge's ruling on an event, and on a list of events (this project's profile).
use Rattle.std.specs.Prelude.{ℕ, ◌+◌, ◌<◌, if◌then◌else◌, List, [], ◌∷◌, Option, Some, None, Result, Ok, Err, All}
use Rattle.scc_base.specs.Events.{IsEvent}
use Rattle.scc_base.specs.Setups.{SetupView}
use Rattle.scc_base.specs.declared.calls.Call.{Call}
use Rattle.scc_base.specs.declared.events.Event.{Event}
use Rattle.scc_proto.specs.Records.{is_permitted}
use Rattle.rank_monitor.specs.Next.{allowed_for}
use Rattle.scc_proto.specs.Stages.{Record}
use Rattle.scc_proto.specs.Words.{RankEvent}
use Rattle.chip_memory.specs.Steps.{is_step, stands_at}
use Rattle.trace_judge.specs.declared.judge.Refusal.{Refusal}
use Rattle.trace_judge.specs.declared.judge.Refusal.TheVariants.{OtherValue, NotPermitted}
use Rattle.rank_monitor.specs.Following.{Adds}
use Rattle.trace_judge.specs.Judged.{Judged, JudgeView, bytes_at, chip_of, judged_after}

-- why an event is refused that is a step: the record of its rank does not permit it, and allows something else
abbrev pub permit_refusal : SetupView → ℕ → Record → Event → Option Refusal
permit_refusal s me rec e = if is_permitted s me rec e then None else Some (NotPermitted (allowed_for s rec e))

-- why an event is refused: its place has another value, or else the record of its rank does not permit it
abbrev pub refusal_of : Judged → RankEvent → Option Refusal
refusal_of j e = if is_step j.memory e.event then permit_refusal j.setup e.rank (j.records e.rank) e.event
    else Some (OtherValue e.event.access (stands_at j.memory e.event))

-- an event that was refused: its number in the list, from 0, its rank, and why
pub record RefusedAt : Type 0 where
  pub number : ℕ
  pub rank : ℕ
  pub why : Refusal

-- the rest of a ruling, unless an event was refused
abbrev pub unless_refused : {A : Type 0} → (number rank : ℕ) → Option Refusal → Result A RefusedAt → Result A RefusedAt
unless_refused number rank None rest = rest
unless_refused number rank (Some why) rest = Err (record { number = number; rank = rank; why = why })

-- the ruling on a list of events, the first of which has this number: the chip after all of them, or the first that is refused
abbrev pub ruling_from : ℕ → Judged → List RankEvent → Result Judged RefusedAt
ruling_from number j [] = Ok j
ruling_from number j (e ∷ es) = unless_refused number e.rank (refusal_of j e) (ruling_from (number + 1) (judged_after j e) es)

-- the calls of a rank have gained the one that its event finished, with the bytes that are shown, or none
abbrev pub HandsOutCall : ℕ → JudgeView → JudgeView → Result (Option Call) Refusal → Type 0
HandsOutCall r before now (Ok call) = Adds call (bytes_at now r) ((chip_of before).records r).calls ((chip_of now).records r).calls
HandsOutCall r before now (Err why) = Unit {0}

-- events that ranks of a chip may make
abbrev pub AreRankEvents : SetupView → List RankEvent → Type 0
AreRankEvents s run = All (λ (e : RankEvent). (e.rank < s.nue) × IsEvent e.event) run
