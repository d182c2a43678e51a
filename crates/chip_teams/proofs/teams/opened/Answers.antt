use Rattle.std.proofs.Common.{rules}
use Rattle.chip_teams.proofs.teams.opened.Goals as goal

-- Names the goal, so that the prover rejects a wrong body at once, without a search.
pub returns-clause-layout : goal.returns-clause-layout
returns-clause-layout c = search rules

pub returns-clause-ranks : goal.returns-clause-ranks
returns-clause-ranks c = search rules
