use Rattle.std.proofs.Common.{rules}
use Rattle.barrier.proofs.stages.stage_after_seen.Goals as goal

-- Names the goal, so that the prover rejects a wrong body at once, without a search.
pub returns-then-size-seen-eq2 : goal.returns-then-size-seen-eq2
returns-then-size-seen-eq2 c = search rules
