use Rattle.std.proofs.Common.{◌≡◌, length}
use Rattle.mpb_alloc.proofs.WalkLemmas.{Passed}
use Rattle.mpb_alloc.proofs.heap.take_lowest.Given as goal

abbrev pub invariant-loop-at : goal.invariant-loop-at
invariant-loop-at l =
    (l.free.items ≡ l.fn.free.items) × (l.at-end ≡ length l.free.items) × Passed l.lines l.at l.free.items
