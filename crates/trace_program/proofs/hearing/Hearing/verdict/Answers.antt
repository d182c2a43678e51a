use Rattle.std.proofs.Common.{◌∙◌, ap, subst, rules}
use Rattle.scc_base.specs.Setups.{SetupView}
use Rattle.trace_judge.specs.Judged.{chip_of}
use Rattle.trace_program.specs.Hearings.{HoldsStage}
use Rattle.trace_program.specs.declared.hearing.Stage.{Stage}
use Rattle.trace_program.proofs.HearingLemmas.{legal_shown, said_holds, waiting_shown}
use Rattle.trace_program.proofs.hearing.Hearing.verdict.Goals as goal

pub returns-in-Waiting : goal.returns-in-Waiting
returns-in-Waiting c = record {
  comes = λ asked hears.
      let (r, come, said) = c.in_ok-finish.ensures.ends in
      let held = subst (λ (s : Stage). HoldsStage asked s c.args.self.finished r) c.in-Waiting.is (said_holds asked c.args.self r hears come) in
      (r.trace, said, waiting_shown asked c.args.self.finished _ r.trace held.0 held.1 (c.nue-nue.ensures.gives ∙ ap (λ (s : SetupView). s.nue) (c.setup.ensures.gives r come)));
}

pub returns-in-Judging : goal.returns-in-Judging
returns-in-Judging c = record {
  comes = λ asked hears.
      let (r, come, said) = c.in_ok-finish.ensures.ends in
      let t = c.in-Judging.field-0 in
      let held = subst (λ (s : Stage). HoldsStage asked s c.args.self.finished r) c.in-Judging.is (said_holds asked c.args.self r hears come) in
      (r.trace, said, legal_shown asked c.args.self.finished _ t.number r.trace (chip_of t.judge) held.1.held (c.nue-nue.ensures.gives ∙ ap (λ (s : SetupView). s.nue) (c.setup.ensures.gives r come)) held.1.tried.ruled);
}

-- Names the goal, so that the prover rejects a wrong body at once, without a search.
pub returns : goal.returns
returns c = search rules
