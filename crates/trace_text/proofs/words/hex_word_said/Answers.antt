use Rattle.std.proofs.Common.{rules}
use Rattle.trace_text.proofs.words.hex_word_said.Goals as goal

-- Names the goal, so that the prover rejects a wrong body at once, without a search.
pub returns-in-Ok : goal.returns-in-Ok
returns-in-Ok c = search rules
