use Rattle.std.proofs.Common.{◌≡◌, ℕ, ◌<◌}
use Rattle.scc_base.specs.Setups.{host_of}
use Rattle.script_plain.proofs.barriers.setup_of.Given as goal

-- each rank so far is on the core of its number
abbrev pub invariant-loop-number : goal.invariant-loop-number
invariant-loop-number l = (k : ℕ) → k < l.number → host_of l.hosts k ≡ k
