use Rattle.std.proofs.Common.{◌-◌, length}
use Rattle.mpb_alloc.proofs.WalkLemmas.{Giving}
use Rattle.mpb_alloc.proofs.heap.give_back.Given as goal

abbrev pub invariant-runs : goal.invariant-runs
invariant-runs l = Giving l.fn.run l.fn.free.items l.run l.at l.free.items

abbrev pub decreases-runs : goal.decreases-runs
decreases-runs l = length l.free.items - l.at
