use Rattle.std.proofs.Common.{arith}
use Rattle.mpb_alloc.proofs.WalkLemmas.{strikes_here}
use Rattle.mpb_alloc.proofs.heap.strike.Goals as goal

pub returns-then-run-other-2 : goal.returns-then-run-other-2
returns-then-run-other-2 c =
    cc (strikes_here c.args.run c.loop-at.at c.loop-at.out.items c.run_at-other.result (omega arith) c.run_at-other.ensures (cc) (cc) c.loop-at.invariant.2)
