use Rattle.std.proofs.Common.{rules}
use Rattle.coll_program.proofs.team.byte_of.Goals as goal

-- Names the goal, so that the prover rejects a wrong body at once, without a search.
pub returns-in-Gather : goal.returns-in-Gather
returns-in-Gather c = search rules
