use Rattle.std.proofs.Common.{◌≡◌, ◌≤◌, slice_index}
use Rattle.scc_base.specs.Groups.{is_with, count_below}
use Rattle.scc_base.proofs.communicators.count_alike.Given as goal

abbrev pub invariant-loop-x : goal.invariant-loop-x
invariant-loop-x l = (l.count ≡ count_below (is_with (λ x. slice_index l.labels x) l.r) l.x) × (l.count ≤ l.x)
