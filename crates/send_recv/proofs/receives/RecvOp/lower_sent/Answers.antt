use Rattle.std.proofs.Common.{rules}
use Rattle.send_recv.proofs.receives.RecvOp.lower_sent.Goals as goal

-- Names the goal, so that the prover rejects a wrong body at once, without a search.
pub returns-then-lines_in-eq0-clause-changes : goal.returns-then-lines_in-eq0-clause-changes
returns-then-lines_in-eq0-clause-changes c = search rules

pub returns-clause-changes : goal.returns-clause-changes
returns-clause-changes c = search rules
