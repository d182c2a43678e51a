use Rattle.std.proofs.Common.{arith}
use Rattle.mpb_alloc.proofs.WalkLemmas.{giving_joined, giving_passed}
use Rattle.mpb_alloc.proofs.heap.give_back.Goals as goal

pub runs-preserved : goal.runs-preserved
runs-preserved c =
    rw (c.join-run.ensures, c.remove.ensures.items)
    (giving_joined c.args.run c.args.free.now.items c.runs.run c.runs.at c.runs.free.items c.run_at-other.result c.runs.invariant (omega arith) c.run_at-other.ensures (omega arith) (omega arith))

pub runs-preserved-then-end-from-2 : goal.runs-preserved-then-end-from-2
runs-preserved-then-end-from-2 c =
    giving_passed c.args.run c.args.free.now.items c.runs.run c.runs.at c.runs.free.items c.run_at-other.result c.runs.invariant (omega arith) c.run_at-other.ensures (omega arith) (omega arith)
