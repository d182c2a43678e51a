use Rattle.std.proofs.Common.{◌<◌, length, arith}
use Rattle.chip_teams.proofs.TeamLemmas.{team_turned}
use Rattle.chip_teams.proofs.teams.Team.turn.Goals as goal

pub invariant_of-self : goal.invariant_of-self
invariant_of-self g c =
    let within : c.args.at < length c.self.inside.players.items = omega arith in
    team_turned c.self.invariant c.args.at c.of.result c.turn_of.new.player c.of.ensures.gives within c.turn_of.ensures.turned
