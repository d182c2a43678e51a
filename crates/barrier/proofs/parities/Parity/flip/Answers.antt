use Rattle.std.proofs.Common.{rules}
use Rattle.barrier.proofs.parities.Parity.flip.Goals as goal

-- Names the goal, so that the prover rejects a wrong body at once, without a search.
pub returns-clause-flipped : goal.returns-clause-flipped
returns-clause-flipped c = search rules
