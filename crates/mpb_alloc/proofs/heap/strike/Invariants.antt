use Rattle.std.proofs.Common.{◌≡◌, ◌++◌, length, take, drop}
use Rattle.mpb_alloc.specs.Heaps.{without_buffer}
use Rattle.mpb_alloc.proofs.heap.strike.Given as goal

abbrev pub invariant-loop-at : goal.invariant-loop-at
invariant-loop-at l =
    (l.out.items ≡ l.fn.out.items) × (l.at-end ≡ length l.out.items)
    × (without_buffer l.run l.out.items ≡ take l.at l.out.items ++ without_buffer l.run (drop l.at l.out.items))
