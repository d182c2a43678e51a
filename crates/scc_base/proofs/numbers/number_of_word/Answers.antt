use Rattle.std.proofs.Common.{rules}
use Rattle.scc_base.proofs.numbers.number_of_word.Goals as goal

-- Names the goal, so that the prover rejects a wrong body at once, without a search.
pub returns-clause-gives : goal.returns-clause-gives
returns-clause-gives c = search rules
