use Rattle.std.proofs.Common.{◌+◌, ◌<◌, refl, sym, ◌∙◌, arith}
use Rattle.coll_more.specs.Ops.{MoreAt}
use Rattle.coll_more.proofs.OpAnswers.{sending_done, sending_fits, sending_moved, sending_room, sending_waited}
use Rattle.coll_more.proofs.ops.MoreOp.go_on_sending.Goals as goal

pub bytes_out-requires : goal.bytes_out-requires
bytes_out-requires g c =
    let m : MoreAt = record { more = c.self.inside.more; len = c.self.inside.len; ended = c.self.inside.ended; stage = c.self.inside.stage } in
    record {
      within = sending_room m c.args.self.now (g.P.Port.sight c.args.port.now) c.args.core.now c.in-Sending.call c.args.slot.now c.args.src.now c.args.dst.now c.known.ensures.few c.known.ensures.low c.requires.stands c.in-Sending.op
          (sym c.self.view_is ∙ (λ i. record m { stage = c.in-Sending.is i }));
    }

pub overflow_add-self : goal.overflow_add-self
overflow_add-self g c =
    let m : MoreAt = record { more = c.self.inside.more; len = c.self.inside.len; ended = c.self.inside.ended; stage = c.self.inside.stage } in
    let less : m.ended + 1 < 256 = sending_fits m c.args.self.now (g.P.Port.sight c.args.port.now) c.args.core.now c.in-Sending.call c.args.slot.now c.args.src.now c.args.dst.now c.known.ensures.few c.known.ensures.low c.requires.stands c.in-Sending.op
    (sym c.self.view_is ∙ (λ i. record m { stage = c.in-Sending.is i })) in
    omega (arith, less)

pub returns-in-Moved-clause-turns : goal.returns-in-Moved-clause-turns
returns-in-Moved-clause-turns g c =
    let m : MoreAt = record { more = c.self.inside.more; len = c.self.inside.len; ended = c.self.inside.ended; stage = c.self.inside.stage } in
    sending_moved m c.args.self.now _ (g.P.Port.sight c.args.port.now) (g.P.Port.sight c.turn.new.port) c.args.core.now c.turn.new.core c.in-Sending.call c.args.slot.now c.args.src.now c.args.dst.now c.requires.stands
    c.in-Sending.op c.turn.new.self c.turn.new.slot c.bytes_out.result.now (sym c.self.view_is ∙ (λ i. record m { stage = c.in-Sending.is i })) c.bytes_out.ensures.gives c.in-Moved.ensures.stands refl c.in-Moved.ensures.turned

pub returns-in-Waiting-clause-turns : goal.returns-in-Waiting-clause-turns
returns-in-Waiting-clause-turns g c =
    let m : MoreAt = record { more = c.self.inside.more; len = c.self.inside.len; ended = c.self.inside.ended; stage = c.self.inside.stage } in
    sending_waited m c.args.self.now _ (g.P.Port.sight c.args.port.now) (g.P.Port.sight c.turn.new.port) c.args.core.now c.turn.new.core c.in-Sending.call c.args.slot.now c.args.src.now c.args.dst.now c.requires.stands
    c.in-Sending.op c.turn.new.self c.turn.new.slot c.bytes_out.result.now (sym c.self.view_is ∙ (λ i. record m { stage = c.in-Sending.is i })) c.bytes_out.ensures.gives c.in-Waiting.ensures.stands c.in-Waiting.spot refl c.in-Waiting.ensures.turned

pub returns-in-Done-clause-turns : goal.returns-in-Done-clause-turns
returns-in-Done-clause-turns g c =
    let m : MoreAt = record { more = c.self.inside.more; len = c.self.inside.len; ended = c.self.inside.ended; stage = c.self.inside.stage } in
    sending_done m c.args.self.now _ (g.P.Port.sight c.args.port.now) (g.P.Port.sight c.turn.new.port) c.args.core.now c.turn.new.core c.in-Sending.call c.args.slot.now c.args.src.now c.args.dst.now c.requires.stands
    c.in-Sending.op c.turn.new.self c.turn.new.slot c.bytes_out.result.now (sym c.self.view_is ∙ (λ i. record m { stage = c.in-Sending.is i })) c.bytes_out.ensures.gives c.in-Done.ensures.stands refl c.in-Done.ensures.turned
