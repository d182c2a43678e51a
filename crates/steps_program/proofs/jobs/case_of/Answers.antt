use Rattle.std.proofs.Common.{rules}
use Rattle.steps_program.proofs.jobs.case_of.Goals as goal

-- Names the goal, so that the prover rejects a wrong body at once, without a search.
pub returns-in-text-5 : goal.returns-in-text-5
returns-in-text-5 c = search rules
