use Rattle.std.proofs.Common.{◌≡◌, max, drop}
use Rattle.mpb_alloc.specs.Heaps.{longest_of}
use Rattle.mpb_alloc.proofs.heap.longest.Given as goal

abbrev pub invariant-loop-run : goal.invariant-loop-run
invariant-loop-run l = longest_of l.runs.items ≡ max l.longest (longest_of (drop l.run-index l.runs.items))
