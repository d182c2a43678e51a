use Rattle.std.proofs.Common.{rules}
use Rattle.rcce_audit.proofs.steps.are_met.Goals as goal

-- Names the goal, so that the prover rejects a wrong body at once, without a search.
pub loop-other-preserved : goal.loop-other-preserved
loop-other-preserved c = search rules
