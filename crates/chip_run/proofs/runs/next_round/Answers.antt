use Rattle.std.proofs.Common.{rules}
use Rattle.chip_run.proofs.runs.next_round.Goals as goal

-- Names the goal, so that the prover rejects a wrong body at once, without a search.
pub returns-in-InThreads-clause-asks : goal.returns-in-InThreads-clause-asks
returns-in-InThreads-clause-asks g c = search rules
