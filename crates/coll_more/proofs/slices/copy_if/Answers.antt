use Rattle.std.proofs.Common.{rules}
use Rattle.coll_more.proofs.slices.copy_if.Goals as goal

-- Names the goal, so that the prover rejects a wrong body at once, without a search.
pub returns-then-not-asked : goal.returns-then-not-asked
returns-then-not-asked c = search rules
