use Rattle.std.proofs.Common.{◌≡◌}
use Rattle.chip_teams.proofs.teams.Team.round.Given as goal

abbrev pub invariant-loop-at : goal.invariant-loop-at
invariant-loop-at g l = l.self ≡ l.fn.self
