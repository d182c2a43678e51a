use Rattle.std.proofs.Common.{rules}
use Rattle.rcce_words.proofs.said.Said.take_flag.Goals as goal

-- Names the goal, so that the prover rejects a wrong body at once, without a search.
pub returns-then-is_against-clause-gives : goal.returns-then-is_against-clause-gives
returns-then-is_against-clause-gives c = search rules
