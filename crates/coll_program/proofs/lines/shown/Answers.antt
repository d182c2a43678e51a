use Rattle.std.proofs.Common.{rules}
use Rattle.coll_program.proofs.lines.shown.Goals as goal

-- Names the goal, so that the prover rejects a wrong body at once, without a search.
pub returns-then-more-eq0 : goal.returns-then-more-eq0
returns-then-more-eq0 c = record { gives = search rules }
