use Rattle.std.proofs.Common.{ℕ, ◌<◌}
use Rattle.std.specs.Prelude.{◌≢◌}
use Rattle.scc_base.specs.Setups.{host_of}
use Rattle.scc_base.proofs.setups.is_alone.Given as goal

abbrev pub invariant-loop-r : goal.invariant-loop-r
invariant-loop-r l = (r : ℕ) → r < l.r → host_of l.hosts r ≢ host_of l.hosts l.rank
