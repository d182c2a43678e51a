use Rattle.std.proofs.Common.{◌≡◌, ◌≤◌, slice_index}
use Rattle.scc_base.specs.Groups.{is_with, lowest_upto}
use Rattle.scc_base.proofs.communicators.first_alike.Given as goal

abbrev pub invariant-loop-x : goal.invariant-loop-x
invariant-loop-x l = (l.found ≡ lowest_upto (is_with (λ x. slice_index l.labels x) l.r) l.x) × (l.found ≤ l.x)
