use Rattle.std.proofs.Common.{◌≡◌, ℕ, ◌<◌, slice_index}
use Rattle.script_rules.proofs.run.hosts.Given as goal

abbrev pub invariant-loop-core : goal.invariant-loop-core
invariant-loop-core l = (k : ℕ) → k < l.core → slice_index l.hosts k ≡ k
