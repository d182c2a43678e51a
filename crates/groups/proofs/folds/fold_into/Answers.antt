use Rattle.std.proofs.Common.{◌≡◌, refl, ◌+◌, ◌*◌, ◌-◌, ◌/◌, arith, length}
use Rattle.groups.specs.Folds.{bytes_in}
use Rattle.groups.proofs.FoldLemmas.{put_value, all_values}
use Rattle.groups.proofs.folds.fold_into.Goals as goal

pub loop-i-preserved : goal.loop-i-preserved
loop-i-preserved c =
    let at : c.loop-i.i * c.width-width.result ≡ c.loop-i.i * bytes_in c.args.ty = rw c.width-width.ensures.gives (refl) in
    let long : c.loop-i.i * c.width-width.result + c.width-width.result - c.loop-i.i * c.width-width.result ≡ bytes_in c.args.ty = omega (arith, c.width-width.ensures.gives) in
    put_value c.args.op c.args.ty c.args.acc.now c.args.more.now c.loop-i.acc c.fold_value.new.acc c.loop-i.i (c.loop-i.i + 1)
    (c.loop-i.i * c.width-width.result) (c.loop-i.i * c.width-width.result + c.width-width.result - c.loop-i.i * c.width-width.result)
    (omega arith) at long c.loop-i.invariant c.fold_value.ensures.folds

-- Names the goal, so that the prover rejects a wrong body at once, without a search.
pub returns-then-acc-more-clause-unchanged : goal.returns-then-acc-more-clause-unchanged
returns-then-acc-more-clause-unchanged c = refl

pub returns-clause-folds : goal.returns-clause-folds
returns-clause-folds c =
    let count : c.loop-i.i ≡ length c.args.acc.now / c.width-width.result = omega (arith, c.loop-i-test.false, c.loop-i.auto.i-end) in
    all_values c.args.op c.args.ty c.args.acc.now c.args.more.now c.loop-i.acc c.loop-i.i c.width-width.result
    c.width-width.ensures.gives count c.if-acc-width-ne0.false c.loop-i.invariant
