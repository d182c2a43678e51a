use Rattle.std.proofs.Common.{rules}
use Rattle.send_recv.proofs.flags.lower.Goals as goal

-- Names the goal, so that the prover rejects a wrong body at once, without a search.
pub returns-else-change_flag-clause-changes : goal.returns-else-change_flag-clause-changes
returns-else-change_flag-clause-changes g c = search rules fits 100
