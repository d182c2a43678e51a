use Rattle.std.specs.Prelude.{◌≡◌, ℕ, false, if◌then◌else◌, ◌+◌, ◌<◌, ◌≤◌, slice_index_or}
use Rattle.chip_run.specs.Away.{IsAway, Served, Batches, slices_left}
use Rattle.chip_run.proofs.together.pass.Given as goal

abbrev pub invariant-loop-at : goal.invariant-loop-at
invariant-loop-at g l = record {
  served : Served (λ k m n. IsAway (g.W.Worker.behaviour.tied n.worker) l.fn.words.space.now.about l.fn.words.space.now.table (l.fn.start + k) n.token
      × Batches g.W.Worker.behaviour l.fn.words.space.now.about m.worker m.token m.failed n.worker n.token n.failed) l.at l.fn.members l.members;
  left : (if l.goes then 1 else 0) + slices_left g.W.Worker.behaviour l.fn.words.space.now.about l.fn.start l.members ≤ slices_left g.W.Worker.behaviour l.fn.words.space.now.about l.fn.start l.fn.members;
  over : l.goes ≡ false → (k : ℕ) (d : _) → k < l.at → 1000 ≤ (slice_index_or l.members k d).failed;
}
