use Rattle.std.proofs.Common.{rules}
use Rattle.scc_base.proofs.names.Rank.new.Goals as goal

-- Names the goal, so that the prover rejects a wrong body at once, without a search.
pub invariant_of-result : goal.invariant_of-result
invariant_of-result c = search rules
