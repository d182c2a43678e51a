use Rattle.std.proofs.Common.{rules}
use Rattle.texts.proofs.numbers.decimal.Goals as goal

-- Names the goal, so that the prover rejects a wrong body at once, without a search.
pub returns-then-is_empty-clause-gives : goal.returns-then-is_empty-clause-gives
returns-then-is_empty-clause-gives c = search rules
