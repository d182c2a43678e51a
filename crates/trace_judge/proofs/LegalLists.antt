-- Lists of events that are taken as a whole.
use Rattle.std.proofs.Common.{◌≡◌, ℕ, ◌+◌, ◌<◌, Bool, true, false, if◌then◌else◌, List, [], ◌∷◌, Option, Some, None, Result, Ok, refl}
use Rattle.std.specs.Prelude.{IsOk}
use Rattle.std.proofs.lemmas.List.Elements.{All-head, All-tail}
use Rattle.rank_monitor.specs.Next.{allowed_for}
use Rattle.rank_monitor.specs.declared.next.NextEvent.{NextEvent}
use Rattle.scc_base.specs.Events.{IsEvent}
use Rattle.scc_base.specs.Setups.{SetupView}
use Rattle.scc_base.specs.declared.events.Access.{Access}
use Rattle.scc_proto.specs.Histories.{IsPermittedRun, memory_from, records_from}
use Rattle.scc_proto.specs.Records.{is_permitted, IsPermitted}
use Rattle.scc_proto.specs.Stages.{Record}
use Rattle.scc_proto.specs.Words.{Memory, IsStep, IsRun, RankEvent}
use Rattle.trace_judge.specs.Judged.{Judged, judged_after}
use Rattle.chip_memory.specs.Steps.{stands_at, is_step}
use Rattle.chip_memory.proofs.StepLaws.{step_told, step_tested}
use Rattle.trace_judge.specs.Rulings.{AreRankEvents, RefusedAt, refusal_of, ruling_from, unless_refused}
use Rattle.trace_judge.specs.declared.judge.Refusal.{Refusal}
use Rattle.trace_judge.specs.declared.judge.Refusal.TheVariants.{OtherValue, NotPermitted}

abbrev IsTaken : Judged → RankEvent → Type 0
IsTaken j e = IsStep j.memory e.event × IsPermitted j.setup e.rank (j.records e.rank) e.event

none_told : (step permitted : Bool) (next : NextEvent) (access : Access) (found : ℕ) → (if step then (if permitted then None else Some (NotPermitted next)) else Some (OtherValue access found)) ≡ None → (step ≡ true) × (permitted ≡ true)
none_told true true next access found is = (refl, refl)
none_told true false next access found is = absurd cc
none_told false permitted next access found is = absurd cc

none_from : (step permitted : Bool) (next : NextEvent) (access : Access) (found : ℕ) → step ≡ true → permitted ≡ true → (if step then (if permitted then None else Some (NotPermitted next)) else Some (OtherValue access found)) ≡ None
none_from true true next access found s p = refl
none_from true false next access found s p = absurd cc
none_from false permitted next access found s p = absurd cc

pub ruling_told : (j : Judged) (e : RankEvent) → refusal_of j e ≡ None → IsTaken j e
ruling_told j e none =
    let both = none_told (is_step j.memory e.event) (is_permitted j.setup e.rank (j.records e.rank) e.event) (allowed_for j.setup (j.records e.rank) e.event) e.event.access (stands_at j.memory e.event) none in
    (step_told e.event.access e.event.place e.event.value j.memory both.0, both.1)

pub ruling_from_taken : (j : Judged) (e : RankEvent) → IsTaken j e → refusal_of j e ≡ None
ruling_from_taken j e taken = none_from (is_step j.memory e.event) (is_permitted j.setup e.rank (j.records e.rank) e.event) (allowed_for j.setup (j.records e.rank) e.event) e.event.access (stands_at j.memory e.event)
    (step_tested e.event.access e.event.place e.event.value j.memory taken.0) taken.1

-- a ruling that goes on refuses nothing
went_on : {A : Type 0} (n r : ℕ) (why : Option Refusal) (rest : Result A RefusedAt) → IsOk (unless_refused n r why rest) → (why ≡ None) × IsOk rest
went_on n r None rest ok = (refl, ok)
went_on n r (Some why) rest ok = absurd cc

goes_on : {A : Type 0} (n r : ℕ) (why : Option Refusal) (rest : Result A RefusedAt) → why ≡ None → IsOk rest → IsOk (unless_refused n r why rest)
goes_on n r None rest none ok = ok
goes_on n r (Some why) rest none ok = absurd cc

pub legal_told : (n : ℕ) (s : SetupView) (memory : Memory) (records : ℕ → Record) (run : List RankEvent) → AreRankEvents s run
    → IsOk (ruling_from n (record { setup = s; memory = memory; records = records }) run) → IsRun memory run × IsPermittedRun s records run
legal_told n s memory records [] are ok = (tt, tt)
legal_told n s memory records (e ∷ run) are ok =
    let j : Judged = record { setup = s; memory = memory; records = records } in
    let both = went_on n e.rank (refusal_of j e) (ruling_from (n + 1) (judged_after j e) run) ok in
    let taken = ruling_told j e both.0 in
    let first = All-head (λ (x : RankEvent). (x.rank < s.nue) × IsEvent x.event) e run are in
    let rest = legal_told (n + 1) s (judged_after j e).memory (judged_after j e).records run (All-tail (λ (x : RankEvent). (x.rank < s.nue) × IsEvent x.event) e run are) both.1 in
    ((taken.0, rest.0), (first.0, first.1, taken.1, rest.1))

pub legal_from : (n : ℕ) (s : SetupView) (memory : Memory) (records : ℕ → Record) (run : List RankEvent)
    → IsRun memory run → IsPermittedRun s records run → IsOk (ruling_from n (record { setup = s; memory = memory; records = records }) run)
legal_from n s memory records [] made may = refl
legal_from n s memory records (e ∷ run) made may =
    let j : Judged = record { setup = s; memory = memory; records = records } in
    goes_on n e.rank (refusal_of j e) (ruling_from (n + 1) (judged_after j e) run) (ruling_from_taken j e (made.0, may.2))
    (legal_from (n + 1) s (judged_after j e).memory (judged_after j e).records run made.1 may.3)

-- the chip is then that of the list
ok_told : (n r : ℕ) (why : Option Refusal) (rest : Result Judged RefusedAt) (j : Judged) → unless_refused n r why rest ≡ Ok j → rest ≡ Ok j
ok_told n r None rest j is = is
ok_told n r (Some why) rest j is = absurd cc

pub chip_told : (n : ℕ) (s : SetupView) (memory : Memory) (records : ℕ → Record) (run : List RankEvent) (j : Judged)
    → ruling_from n (record { setup = s; memory = memory; records = records }) run ≡ Ok j → j ≡ record { setup = s; memory = memory_from memory run; records = records_from s records run }
chip_told n s memory records [] j is = cc
chip_told n s memory records (e ∷ run) j is =
    let now = judged_after (record { setup = s; memory = memory; records = records }) e in
    chip_told (n + 1) s now.memory now.records run j (ok_told n e.rank (refusal_of (record { setup = s; memory = memory; records = records }) e) (ruling_from (n + 1) now run) j is)
