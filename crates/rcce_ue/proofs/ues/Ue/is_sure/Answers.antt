use Rattle.std.proofs.Common.{rules}
use Rattle.rcce_ue.proofs.ues.Ue.is_sure.Goals as goal

-- Names the goal, so that the prover rejects a wrong body at once, without a search.
pub returns-in-Nothing : goal.returns-in-Nothing
returns-in-Nothing g c = search rules

pub returns-in-Nothing-2 : goal.returns-in-Nothing-2
returns-in-Nothing-2 g c = search rules
