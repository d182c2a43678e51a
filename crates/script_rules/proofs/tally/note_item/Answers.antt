use Rattle.std.proofs.Common.{arith}
use Rattle.std.proofs.lemmas.Grind.{common_steps}
use Rattle.script_rules.proofs.tally.note_item.Goals as goal

-- Names the goal, so that the prover rejects a wrong body at once, without a search.
pub loop-rank-preserved : goal.loop-rank-preserved
loop-rank-preserved c = grind (arith, common_steps)
