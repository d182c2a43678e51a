use Rattle.std.proofs.Common.{arith}
use Rattle.std.proofs.lemmas.Grind.{common_steps}
use Rattle.script_reader.proofs.said.repeat_said.Goals as goal

-- Names the goal, so that the prover rejects a wrong body at once, without a search.
pub returns-in_ok-times-in-len1 : goal.returns-in_ok-times-in-len1
returns-in_ok-times-in-len1 c = grind (arith, common_steps)
