use Rattle.std.proofs.Common.{rules}
use Rattle.chip_teams.proofs.teams.Team.join.Goals as goal

-- Names the goal, so that the prover rejects a wrong body at once, without a search.
pub invariant_of-self-2 : goal.invariant_of-self-2
invariant_of-self-2 c = search rules
