use Rattle.std.proofs.Common.{rules, sym, ◌∙◌, ap, subst}
use Rattle.scc_proto.specs.Ports.{Sight}
use Rattle.scc_mesh.specs.Scenes.{WasSeatStep, about_in, events_in, sight_in}
use Rattle.scc_mesh.specs.declared.port.OnePort.{OnePort}
use Rattle.chip_run.specs.Turns.{Turned}
use Rattle.chip_run.proofs.HomeTurns.{own_turn_at, own_turn_ends}
use Rattle.trace_run.proofs.SeenLaws.{seen_back, seen_lent, tied_lent}
use Rattle.trace_run.proofs.turns.own_turn.Goals as goal

pub new-port-requires : goal.new-port-requires
new-port-requires g c =
    let lent = c.port.result in
    record {
      seen = seen_lent (g.N.Witness.setup c.args.witness) (g.N.Witness.noted c.args.witness) c.args.chip.now lent.chip.now lent.rank lent.chip.ghost_name
          c.port.ensures.same c.requires.seen;
      wanted = c.requires.wanted;
    }

pub turn-answer-requires : goal.turn-answer-requires
turn-answer-requires g c =
    let lent = c.port.result in
    record {
      ties = subst (λ (x : OnePort). g.W.Worker.behaviour.tied c.args.worker.now (about_in x.chip.now) x.rank (events_in x.chip.now x.rank)) (sym c.new-port.ensures.port)
          (tied_lent g.W.Worker.behaviour c.args.chip.now lent.chip.now c.args.rank lent.rank c.args.worker.now c.port.ensures.same c.port.ensures.rank c.requires.ties);
    }

pub returns : goal.returns
returns g c =
    let lent = c.port.result in
    let end = c.apart-witness.result.1 in
    let p = c.port.ensures in
    let at : OnePort → Sight = λ x. sight_in x.chip.now x.rank x.chip.ghost_name in
    let turned : Turned g.W.Worker.behaviour (WasSeatStep (at lent).seat) c.args.worker.now (at lent) c.turn-answer.new.self (at end) c.turn-answer.result.0 =
    subst (λ (x : OnePort). Turned g.W.Worker.behaviour (WasSeatStep (at lent).seat) c.args.worker.now (at lent) c.turn-answer.new.self (at x) c.turn-answer.result.0)
    (sym c.apart-witness.ensures.port)
    (subst (λ (x : OnePort). Turned g.W.Worker.behaviour (WasSeatStep (at x).seat) c.args.worker.now (at x) c.turn-answer.new.self (at c.turn-answer.result.1.port) c.turn-answer.result.0)
    c.new-port.ensures.port c.turn-answer.ensures.turned) in
    let ties = subst (λ (x : OnePort). g.W.Worker.behaviour.tied c.turn-answer.new.self (about_in x.chip.now) x.rank (events_in x.chip.now x.rank))
    (sym c.apart-witness.ensures.port) c.turn-answer.ensures.ties in
    let kept = ap (λ (x : Sight). x.seat.hold) turned.did.continues in
    let n = sym (kept ∙ p.name) in
    record {
      turned = own_turn_at g.W.Worker.behaviour c.args.chip.now c.args.rank c.args.worker.now c.turn-answer.new.self c.turn-answer.result.0 _ end.chip.now (search (rules, n))
          (own_turn_ends g.W.Worker.behaviour c.args.chip.now lent.chip.now end.chip.now c.args.rank lent.rank end.rank lent.chip.ghost_name end.chip.ghost_name
          c.args.worker.now c.turn-answer.new.self c.turn-answer.result.0 p.same p.rank c.requires.whole c.requires.below end.home turned ties);
      seen = seen_back (g.N.Witness.setup c.apart-witness.result.0) (g.N.Witness.noted c.apart-witness.result.0) end.chip.now _ end.rank end.chip.ghost_name
          (search (rules, n)) c.apart-witness.ensures.seen;
      wanted = c.apart-witness.ensures.wanted;
    }
