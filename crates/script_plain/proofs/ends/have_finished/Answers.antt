use Rattle.std.proofs.Common.{arith}
use Rattle.std.proofs.lemmas.Grind.{common_steps}
use Rattle.script_plain.proofs.ends.have_finished.Goals as goal

-- Names the goal, so that the prover rejects a wrong body at once, without a search.
pub loop-number-preserved : goal.loop-number-preserved
loop-number-preserved c = grind (arith, common_steps)
