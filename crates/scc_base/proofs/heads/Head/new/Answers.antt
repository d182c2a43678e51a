use Rattle.std.proofs.Common.{rules}
use Rattle.scc_base.proofs.heads.Head.new.Goals as goal

-- Names the goal, so that the prover rejects a wrong body at once, without a search.
pub invariant_of-result : goal.invariant_of-result
invariant_of-result c = search rules

pub returns-then-fits : goal.returns-then-fits
returns-then-fits c = search rules
