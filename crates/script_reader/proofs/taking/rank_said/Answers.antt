use Rattle.std.proofs.Common.{rules}
use Rattle.script_reader.proofs.taking.rank_said.Goals as goal

-- Names the goal, so that the prover rejects a wrong body at once, without a search.
pub returns-clause-same : goal.returns-clause-same
returns-clause-same c = search rules

pub returns-clause-within : goal.returns-clause-within
returns-clause-within c = search rules
