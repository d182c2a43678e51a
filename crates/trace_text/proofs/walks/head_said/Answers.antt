use Rattle.std.proofs.Common.{rules}
use Rattle.trace_text.proofs.walks.head_said.Goals as goal

-- Names the goal, so that the prover rejects a wrong body at once, without a search.
pub returns : goal.returns
returns c = search rules
