use Rattle.std.proofs.Common.{rules}
use Rattle.steps_program.proofs.jobs.make.Goals as goal

-- Names the goal, so that the prover rejects a wrong body at once, without a search.
pub returns-in_ok-chip-in-Port : goal.returns-in_ok-chip-in-Port
returns-in_ok-chip-in-Port c = search rules
