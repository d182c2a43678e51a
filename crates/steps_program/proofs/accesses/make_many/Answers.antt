use Rattle.std.proofs.Common.{rules}
use Rattle.steps_program.proofs.accesses.make_many.Goals as goal

-- Names the goal, so that the prover rejects a wrong body at once, without a search.
pub returns-in-Stores : goal.returns-in-Stores
returns-in-Stores c = search rules
