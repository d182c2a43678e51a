use Rattle.std.proofs.Common.{rules}
use Rattle.trace_program.proofs.judging.first_event_line.Goals as goal

-- Names the goal, so that the prover rejects a wrong body at once, without a search.
pub loop-comm-preserved : goal.loop-comm-preserved
loop-comm-preserved c = search rules
