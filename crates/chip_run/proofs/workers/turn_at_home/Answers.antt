use Rattle.std.proofs.Common.{rules, sym, ◌∙◌, ap}
use Rattle.scc_proto.specs.Ports.{Sight}
use Rattle.scc_mesh.specs.Scenes.{about_in}
use Rattle.chip_run.proofs.HomeTurns.{home_turned, own_turn_ends, own_turn_whole}
use Rattle.chip_run.proofs.workers.turn_at_home.Goals as goal

pub agrees-requires : goal.agrees-requires
agrees-requires g c =
    let lent = c.port.result in
    let end = c.turn-answer.result.1 in
    let p = c.port.ensures in
    let kept = ap (λ (x : Sight). x.seat.hold) c.turn-answer.ensures.turned.did.continues in
    let n = sym (kept ∙ p.name) in
    record {
      whole = own_turn_whole g.W.Worker.behaviour c.args.chip.now c.args.rank c.args.worker.now c.turn-answer.new.self c.turn-answer.result.0 _ end.chip.now (search (rules, n))
          (own_turn_ends g.W.Worker.behaviour c.args.chip.now lent.chip.now end.chip.now c.args.rank lent.rank end.rank lent.chip.ghost_name end.chip.ghost_name
          c.args.worker.now c.turn-answer.new.self c.turn-answer.result.0 p.same p.rank c.requires.whole c.requires.below end.home c.turn-answer.ensures.turned c.turn-answer.ensures.ties);
    }

pub returns : goal.returns
returns g c =
    let lent = c.port.result in
    let end = c.turn-answer.result.1 in
    let p = c.port.ensures in
    let kept = ap (λ (x : Sight). x.seat.hold) c.turn-answer.ensures.turned.did.continues in
    let n = sym (kept ∙ p.name) in
    record {
      turned = home_turned g.W.Worker.behaviour c.args.chip.now c.args.rank c.args.worker.now c.turn-answer.new.self c.turn-answer.result.0 _ end.chip.now c.is_stopped.result c.of.result
          c.requires.free (search (rules, n))
          (own_turn_ends g.W.Worker.behaviour c.args.chip.now lent.chip.now end.chip.now c.args.rank lent.rank end.rank lent.chip.ghost_name end.chip.ghost_name
          c.args.worker.now c.turn-answer.new.self c.turn-answer.result.0 p.same p.rank c.requires.whole c.requires.below end.home c.turn-answer.ensures.turned c.turn-answer.ensures.ties)
          c.agrees.ensures.beyond (c.is_stopped.ensures.tells (about_in c.args.chip.now) c.args.rank) c.of.ensures.gives;
    }
