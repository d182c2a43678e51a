use Rattle.scc_base.specs.Setups.{AreApart}
use Rattle.scc_base.proofs.setups.are_apart.Given as goal

abbrev pub invariant-loop-rank : goal.invariant-loop-rank
invariant-loop-rank l = AreApart l.rank l.hosts
