use Rattle.std.proofs.Common.{arith}
use Rattle.std.proofs.lemmas.Grind.{common_steps}
use Rattle.rcce_audit.proofs.reading.read_all.Goals as goal

-- Names the goal, so that the prover rejects a wrong body at once, without a search.
pub returns-then-is_empty : goal.returns-then-is_empty
returns-then-is_empty c = grind (arith, common_steps)
