use Rattle.std.proofs.Common.{rules}
use Rattle.scc_base.proofs.communicators.quotient_labels.Goals as goal

-- Names the goal, so that the prover rejects a wrong body at once, without a search.
pub loop-r-preserved : goal.loop-r-preserved
loop-r-preserved c = search rules
