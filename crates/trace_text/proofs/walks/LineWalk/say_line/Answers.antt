use Rattle.std.proofs.Common.{rules}
use Rattle.trace_text.proofs.walks.LineWalk.say_line.Goals as goal

-- Names the goal, so that the prover rejects a wrong body at once, without a search.
pub returns-in-Event-clause-event : goal.returns-in-Event-clause-event
returns-in-Event-clause-event c = search rules
