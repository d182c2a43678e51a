use Rattle.std.proofs.Common.{◌≡◌, ◌<◌, ◌+◌, ◌*◌, ◌%◌, ℕ, slice_index, length}
use Rattle.scc_base.proofs.communicators.remainder_labels.Given as goal

abbrev pub invariant-loop-r : goal.invariant-loop-r
invariant-loop-r l = (length l.labels ≡ 48)
    × ((r : ℕ) → r < l.r → slice_index l.labels r ≡ 48 * slice_index l.parent.roots r + slice_index l.parent.places r % l.k)
