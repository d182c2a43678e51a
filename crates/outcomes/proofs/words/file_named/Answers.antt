use Rattle.std.proofs.Common.{arith}
use Rattle.std.proofs.lemmas.Grind.{common_steps}
use Rattle.outcomes.proofs.words.file_named.Goals as goal

-- Names the goal, so that the prover rejects a wrong body at once, without a search.
pub returns-in-len1 : goal.returns-in-len1
returns-in-len1 c = grind (arith, common_steps)
