use Rattle.std.proofs.Common.{◌+◌, arith}
use Rattle.chip_run.proofs.FailedLaws.{least_next, least_over, least_within}
use Rattle.chip_run.proofs.together.fewest_failed.Goals as goal

pub loop-at-init : goal.loop-at-init
loop-at-init g c = let least = least_within c.args.members.now in record { within = omega arith; so_far = omega (arith, least) }

pub loop-at-preserved : goal.loop-at-preserved
loop-at-preserved g c =
    let on = least_next c.loop-at.at (c.loop-at.at + 1) c.args.members.now c.index-members-at.result (omega arith) c.loop-at-test.true in
    let so = c.loop-at.invariant.so_far in
    let within = c.loop-at.invariant.within in
    record { within = omega (arith, within); so_far = omega (arith, on, so) }

pub returns : goal.returns
returns g c =
    let over = least_over c.loop-at.at c.args.members.now (omega (arith, c.loop-at-test.false)) in
    let so = c.loop-at.invariant.so_far in
    let within = c.loop-at.invariant.within in
    record { gives = omega (arith, over, so, within) }
