use Rattle.std.proofs.Common.{rules}
use Rattle.texts.proofs.cuts.lines.Goals as goal

-- Names the goal, so that the prover rejects a wrong body at once, without a search.
pub returns : goal.returns
returns c = search rules
