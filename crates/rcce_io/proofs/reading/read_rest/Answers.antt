use Rattle.std.proofs.Common.{arith}
use Rattle.std.proofs.lemmas.Grind.{common_steps}
use Rattle.rcce_io.proofs.reading.read_rest.Goals as goal

-- Names the goal, so that the prover rejects a wrong body at once, without a search.
pub returns : goal.returns
returns c = grind (arith, common_steps)
