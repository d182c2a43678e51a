use Rattle.std.proofs.Common.{rules}
use Rattle.line_cache.proofs.cache.Cache.find.Goals as goal

-- Names the goal, so that the prover rejects a wrong body at once, without a search.
pub returns-then-mark-self-clause-place : goal.returns-then-mark-self-clause-place
returns-then-mark-self-clause-place c = search rules
