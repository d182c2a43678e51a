-- Where a run whose trace is written begins, and what it leaves.
use base.Stored.{Coded-set, coded_ℕ}
use Rattle.std.proofs.Common.{◌≡◌, ℕ, suc, Bool, List, [], Option, Some, None, Result, sym, subst}
use Rattle.std.proofs.Math.Logic.{∥∥₁_elim, ∥∥₁_map}
use Rattle.rcce_io.specs.Sending.{SinkView}
use Rattle.scc_base.specs.Setups.{SetupView}
use Rattle.scc_proto.specs.Words.{RankEvent}
use Rattle.scc_mesh.specs.Scenes.{ChipView, about_in, events_in}
use Rattle.chip_run.specs.declared.ends.RunEnd.{RunEnd}
use Rattle.chip_run.specs.declared.runs.Mode.TheVariants as mode
use Rattle.chip_run.specs.Behaves.{Behaviour}
use Rattle.chip_run.specs.Runs.{InOrder}
use Rattle.trace_run.specs.Runs.{RunsBy, RunsToEnd}
use Rattle.trace_run.specs.Seen.{HasSeenAll}
use Rattle.trace_writer.specs.declared.desks.TraceFault.{TraceFault}
use Rattle.trace_writer.specs.Desks.{IsFrontOf, TraceSent}
use Rattle.trace_writer.specs.Writing.{HasTrace, KeepsUp, trace_answer}

-- a witness that was told nothing of a chip without events
pub told_none : (s : SetupView) (told : List RankEvent → Type 0) (chip : ChipView) → s ≡ about_in chip → ((rank : ℕ) → events_in chip rank ≡ []) → told [] → HasSeenAll s told chip
told_none s told chip same empty none = record { setup_is = same; seen = ∣ record { run = []; noted = none; each = λ rank. sym (empty rank) } ∣₁ }

-- what a witness was told has the trace that was sent
pub traced : (s : SetupView) (told holds : List RankEvent → Type 0) (written : List RankEvent) (chip : ChipView) (first before after end : SinkView) (answer : Result RunEnd TraceFault)
    → HasSeenAll s told chip → first ≡ before → end ≡ after → ((run : List RankEvent) → told run → TraceSent s first after written run (trace_answer answer)) → holds written
    → HasTrace holds chip before end answer
traced s told holds written chip first before after end answer seen same ended sent so = ∥∥₁_map seen.seen (λ all. record {
  run = all.run;
  each = all.each;
  written = written;
  sent = subst (λ (x : SetupView). TraceSent x before end written all.run (trace_answer answer)) seen.setup_is
      (subst (λ (v : SinkView). TraceSent s before v written all.run (trace_answer answer)) (sym ended)
      (subst (λ (v : SinkView). TraceSent s v after written all.run (trace_answer answer)) same (sent all.run all.noted)));
  so = so;
})

-- ---- the rounds of a run, however it ended

module _ {A : Type 0} (c : Behaviour A) (listens : Bool) (written : List RankEvent) (seed : ℕ) (chip now : ChipView) (crew later : List A) where
  pub keeps_up : (end : Option RunEnd) → RunsBy c listens (λ early. IsFrontOf early written) seed end chip crew now later → KeepsUp c seed chip crew now later written
  keeps_up None ran = record { rounds = ran.rounds; heard = ran.heard }
  keeps_up (Some end) ran = record { rounds = suc ran.more; heard = ran.heard }

  pub in_order : (end : Option RunEnd) → RunsBy c listens (λ early. IsFrontOf early written) seed end chip crew now later → InOrder c (mode.Serial seed) chip crew now later
  in_order None ran = (ran.rounds, ran.order)
  in_order (Some end) ran = ran.ran.order

  pub ran_to_end : (end : RunEnd) (told : Option RunEnd) → told ≡ Some end → RunsBy c listens (λ early. IsFrontOf early written) seed told chip crew now later
      → RunsToEnd c seed end chip crew now later
  ran_to_end end told is ran = (subst (λ (o : Option RunEnd). RunsBy c listens (λ early. IsFrontOf early written) seed o chip crew now later) is ran).ran

-- what is so of whatever a witness was told, where that is a fact
pub told_fact : (s : SetupView) (told : List RankEvent → Type 0) (chip : ChipView) (a b : ℕ) → HasSeenAll s told chip → ((run : List RankEvent) → told run → a ≡ b) → a ≡ b
told_fact s told chip a b seen so = ∥∥₁_elim seen.seen (Coded-set coded_ℕ a b) (λ all. so all.run all.noted)
