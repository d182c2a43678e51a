use Rattle.std.proofs.Common.{rules, ◌≡◌, Option, Some, ap, ◌∙◌, subst}
use Rattle.scc_mesh.specs.AwayRanks.{Ticket}
use Rattle.scc_mesh.specs.Turns.{AfterTurnAway}
use Rattle.scc_mesh.proofs.TurnLaws.{came_back, stands_there}
use Rattle.run_rows.specs.AwayPlayers.{StandsAway}
use Rattle.run_rows.proofs.ue_apart.turns_away.Goals as goal

pub turns-requires : goal.turns-requires
turns-requires g c =
    let stands = g.M.Player.stands c.args.rank.now.player in
    let about = c.args.words.space.now.about in
    let token : c.args.rank.now.token ≡ Some c.in-Some.token = search rules in
    let was : StandsAway stands about c.args.words.space.now.table (Some c.in-Some.token) = subst (λ (t : Option Ticket). StandsAway stands about c.args.words.space.now.table t) token c.requires.away in
    record { stands = stands_there stands about c.in-Some.token c.port-port.result c.port-port.ensures.gives was.1 }

pub returns : goal.returns
returns g c =
    let stands = g.M.Player.stands c.args.rank.now.player in
    let about = c.args.words.space.now.about in
    let token : c.args.rank.now.token ≡ Some c.in-Some.token = search rules in
    let was : StandsAway stands about c.args.words.space.now.table (Some c.in-Some.token) = subst (λ (t : Option Ticket). StandsAway stands about c.args.words.space.now.table t) token c.requires.away in
    let back : AfterTurnAway (g.M.Player.stands c.turns.new.player) about c.in-Some.token c.into_token.result =
    came_back (g.M.Player.stands c.turns.new.player) about c.in-Some.token c.into_token.result c.port-port.result c.turns.new.port c.port-port.ensures.gives
    c.turns.ensures.did c.turns.ensures.stands c.into_token.ensures.gives in
    record { away = (ap (λ (t : Ticket). t.table) back.is ∙ was.0, back.here) }
