use Rattle.std.proofs.Common.{rules, sym, ◌∙◌}
use Rattle.scc_mesh.proofs.TurnLaws.{after_turn, name_kept, turn_end}
use Rattle.chip_teams.proofs.teams.turn_of.Goals as goal

pub returns : goal.returns
returns g c =
    let lent = c.port-port.result in
    let end = c.turn.new.port in
    let p = c.port-port.ensures in
    let kept = name_kept lent.chip.now end.chip.now lent.rank end.rank lent.chip.ghost_name end.chip.ghost_name c.turn.ensures.did in
    let n = sym (kept ∙ p.name) in
    record {
      turned = turn_end (g.M.Player.stands c.turn.new.self) c.args.chip.now c.args.rank _ end.chip.now (search (rules, n))
          (after_turn (g.M.Player.stands c.turn.new.self) c.args.chip.now lent.chip.now end.chip.now c.args.rank lent.rank end.rank lent.chip.ghost_name end.chip.ghost_name
          p.same p.rank c.requires.whole.opened end.home c.turn.ensures.did c.turn.ensures.stands);
    }
