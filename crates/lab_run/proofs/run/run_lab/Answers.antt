use Rattle.std.proofs.Common.{◌∙◌, sym, subst}
use Rattle.lab_plain.specs.Meaning.{Done, lab_done}
use Rattle.lab_run.specs.Benches.{bench_stand}
use Rattle.lab_run.specs.Stands.{HasDoneLab}
use Rattle.lab_run.proofs.BenchLaws.{ends_last, ends_there}
use Rattle.lab_run.proofs.run.run_lab.Goals as goal

pub returns-then-is_some : goal.returns-then-is_some
returns-then-is_some c =
    let steps = c.args.steps.now in
    let made = c.in_ok-stopped.ensures in
    subst (λ (d : Done). HasDoneLab d c.into_run.result)
    (sym (ends_there steps c.loop-step.step-index c.step-item.result (bench_stand c.loop-step.bench) (bench_stand c.make.new.self) c.in_ok-stopped.stopped (lab_done steps)
    c.loop-step-test.true c.step-item.is c.loop-step.invariant.same made.stand made.stop (sym c.is_some.ensures ∙ c.if-is_some.true)))
    c.into_run.ensures

pub returns : goal.returns
returns c =
    let steps = c.args.steps.now in
    subst (λ (d : Done). HasDoneLab d c.into_run-2.result)
    (sym (ends_last steps c.loop-step.step-index (bench_stand c.loop-step.bench) (lab_done steps) c.loop-step-test.false c.loop-step.invariant.same))
    c.into_run-2.ensures
