use Rattle.std.proofs.Common.{◌≡◌}
use Rattle.chip_teams.proofs.teams.Team.rounds.Given as goal

abbrev pub invariant-loop-rounds : goal.invariant-loop-rounds
invariant-loop-rounds g l = l.self ≡ l.fn.self
