use Rattle.std.proofs.Common.{rules}
use Rattle.script_plain.proofs.facing.still_to.Goals as goal

-- Names the goal, so that the prover rejects a wrong body at once, without a search.
pub returns-in-One-clause-aside : goal.returns-in-One-clause-aside
returns-in-One-clause-aside c = search rules
