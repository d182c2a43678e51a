use Rattle.std.proofs.Common.{◌≡◌, ℕ, arith, subst}
use Rattle.rcce_run.specs.UeRuns.{AreFresh}
use Rattle.rcce_run.proofs.FreshCrews.{crew_fresh, fresh_more}
use Rattle.run_rows.proofs.runs.crew_of.Goals as goal

pub loop-number-preserved : goal.loop-number-preserved
loop-number-preserved g c =
    fresh_more c.args.scripts.now c.args.setup.now c.copy.result c.loop-number.number c.of.result c.loop-number.crew.items _ c.in_ok-ue.ue c.new-in-loop-number.result c.loop-number.invariant
    c.copy.ensures.gives c.of.ensures.gives (record { machine = c.in_ok-ue.ensures.machine; tied = c.in_ok-ue.ensures.tied })
    c.new-in-loop-number.ensures.worker c.new-in-loop-number.ensures.empty c.in_ok-push.ensures.items

pub returns : goal.returns
returns g c =
    let all : c.loop-number.number ≡ c.args.setup.now.nue = omega (arith, c.loop-number-test.false, c.loop-number.auto.number-end, c.nue-number-end.ensures.gives) in
    record {
      fresh = crew_fresh c.args.scripts.now c.args.setup.now c.loop-number.crew.items (subst (λ (n : ℕ). AreFresh c.args.scripts.now c.args.setup.now n c.loop-number.crew.items) all c.loop-number.invariant);
    }
