use Rattle.std.proofs.Common.{arith}
use Rattle.std.proofs.lemmas.Grind.{common_steps}
use Rattle.lab_reader.proofs.words.value_said.Goals as goal

-- Names the goal, so that the prover rejects a wrong body at once, without a search.
pub loop-b-preserved : goal.loop-b-preserved
loop-b-preserved c = grind (arith, common_steps)
