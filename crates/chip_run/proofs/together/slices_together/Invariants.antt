use Rattle.std.specs.Prelude.{◌+◌, length}
use Rattle.chip_run.specs.Away.{IsAway, Served, Batches, slices_left}
use Rattle.chip_run.proofs.together.slices_together.Given as goal

abbrev pub invariant-loop-start : goal.invariant-loop-start
invariant-loop-start g l =
    Served (λ k m n. IsAway (g.W.Worker.behaviour.tied n.worker) l.fn.words.space.now.about l.fn.words.space.now.table (l.fn.start + k) n.token
    × Batches g.W.Worker.behaviour l.fn.words.space.now.about m.worker m.token 0 n.worker n.token n.failed
    × g.G.Gate.passed l.fn.gate (l.fn.start + k)) (length l.fn.members) l.fn.members l.members

abbrev pub decreases-loop-start : goal.decreases-loop-start
decreases-loop-start g l = slices_left g.W.Worker.behaviour l.fn.words.space.now.about l.fn.start l.members
