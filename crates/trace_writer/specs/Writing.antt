-- A run whose trace is written while it goes, and what it leaves (this project's profile).
use Rattle.std.specs.Prelude.{◌≡◌, ℕ, List, Result, Ok, Err}
use Rattle.rand_core.specs.Pcg32Seed.{pcg32_seed}
use Rattle.rand_pcg.specs.Pcg.{pcg32_of_seed}
use Rattle.rcce_io.specs.Sending.{SinkView}
use Rattle.scc_proto.specs.Histories.{events_of}
use Rattle.scc_proto.specs.Words.{RankEvent}
use Rattle.scc_mesh.specs.Scenes.{ChipView, about_in, events_in}
use Rattle.chip_run.specs.declared.ends.RunEnd.{RunEnd}
use Rattle.chip_run.specs.declared.runs.Mode.TheVariants as mode
use Rattle.chip_run.specs.Behaves.{Behaviour}
use Rattle.chip_run.specs.Runs.{InOrder}
use Rattle.trace_run.specs.Runs.{RoundsHeard, RunsToEnd}
use Rattle.trace_writer.specs.declared.desks.TraceFault.{TraceFault}
use Rattle.trace_writer.specs.Desks.{IsFrontOf, TraceSent}

-- whether the trace was written whole, or why not
abbrev pub trace_answer : Result RunEnd TraceFault → Result (Unit {0}) TraceFault
trace_answer (Ok end) = Ok tt
trace_answer (Err why) = Err why

-- The chip's events are these, in the order in which they were made: by rank exactly the rank's own, in order. The trace of a front
-- of them was written as the answer says, and the front is so (`holds`).
pub record TraceOf (holds : List RankEvent → Type 0) (chip : ChipView) (before after : SinkView) (answer : Result RunEnd TraceFault)
    : Type 0 where
  pub run : List RankEvent
  pub each : (rank : ℕ) → events_of rank run ≡ events_in chip rank
  pub written : List RankEvent
  pub sent : TraceSent (about_in chip) before after written run (trace_answer answer)
  pub so : holds written

-- there is one such list of events
abbrev pub HasTrace : (List RankEvent → Type 0) → ChipView → SinkView → SinkView → Result RunEnd TraceFault → Type 0
HasTrace holds chip before after answer = ∥ TraceOf holds chip before after answer ∥₁

-- The trace kept up with the rounds of a run: before each round, the last one included, the events that the chip had then had been
-- judged and given to the sink, and no write had failed. So they are a front of what was written at last. Seven parameters: the
-- workers' conduct, the seed, the chip and the crew before and after, and what was written.
pub record KeepsUp {A : Type 0} (c : Behaviour A) (seed : ℕ) (chip : ChipView) (crew : List A) (now : ChipView) (later : List A)
    (written : List RankEvent) : Type 0 where
  pub rounds : ℕ
  pub heard : RoundsHeard c (λ early. IsFrontOf early written) (pcg32_of_seed (pcg32_seed 16 seed)) rounds chip crew now later

-- Where the trace is whole the run went to its end, and else it went on for some of its rounds, in the seed's order. Seven
-- parameters: the workers' conduct, the seed, the chip and the crew before and after, and the answer.
abbrev pub RunsTraced : {A : Type 0} → Behaviour A → ℕ → ChipView → List A → ChipView → List A → Result RunEnd TraceFault → Type 0
RunsTraced c seed chip crew now later (Ok end) = RunsToEnd c seed end chip crew now later
RunsTraced c seed chip crew now later (Err why) = InOrder c (mode.Serial seed) chip crew now later
