use Rattle.std.proofs.Common.{arith}
use Rattle.std.proofs.lemmas.Grind.{common_steps}
use Rattle.call_tap.proofs.kept.Kept.note.Goals as goal

-- Names the goal, so that the prover rejects a wrong body at once, without a search.
pub returns-else-len-lt-MOST_CALLS : goal.returns-else-len-lt-MOST_CALLS
returns-else-len-lt-MOST_CALLS c = grind (arith, common_steps)

pub returns-else-is_err : goal.returns-else-is_err
returns-else-is_err c = grind (arith, common_steps)
