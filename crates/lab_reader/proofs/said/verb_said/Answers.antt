use Rattle.std.proofs.Common.{rules}
use Rattle.lab_reader.proofs.said.verb_said.Goals as goal

-- Names the goal, so that the prover rejects a wrong body at once, without a search.
pub returns-then-eq-4 : goal.returns-then-eq-4
returns-then-eq-4 c = search rules
