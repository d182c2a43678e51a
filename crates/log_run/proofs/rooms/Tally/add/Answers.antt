use Rattle.std.proofs.Common.{rules}
use Rattle.log_run.proofs.rooms.Tally.add.Goals as goal

-- Names the goal, so that the prover rejects a wrong body at once, without a search.
pub returns-else-self-le-MOST_CALLS-clause-within : goal.returns-else-self-le-MOST_CALLS-clause-within
returns-else-self-le-MOST_CALLS-clause-within c = search rules
