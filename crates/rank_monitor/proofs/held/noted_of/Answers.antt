use Rattle.std.proofs.Common.{rules}
use Rattle.rank_monitor.proofs.held.noted_of.Goals as goal

-- Names the goal, so that the prover rejects a wrong body at once, without a search.
pub returns-in-Ready : goal.returns-in-Ready
returns-in-Ready c = search rules
