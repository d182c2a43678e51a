use Rattle.std.proofs.Common.{rules}
use Rattle.script_machine.proofs.course.enter.Goals as goal

-- Names the goal, so that the prover rejects a wrong body at once, without a search.
pub returns-in-Opens-clause-same : goal.returns-in-Opens-clause-same
returns-in-Opens-clause-same c = search rules
