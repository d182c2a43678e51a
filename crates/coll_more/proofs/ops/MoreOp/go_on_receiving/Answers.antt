use Rattle.std.proofs.Common.{◌≡◌, ◌+◌, ◌<◌, length, refl, sym, ◌∙◌, arith}
use Rattle.coll_more.specs.Ops.{MoreAt}
use Rattle.coll_more.proofs.OpAnswers.{receiving_done, receiving_fits, receiving_moved, receiving_refused, receiving_room, receiving_waited}
use Rattle.coll_more.proofs.ops.MoreOp.go_on_receiving.Goals as goal

pub take_turn-requires-clause-within : goal.take_turn-requires-clause-within
take_turn-requires-clause-within g c =
    let m : MoreAt = record { more = c.self.inside.more; len = c.self.inside.len; ended = c.self.inside.ended; stage = c.self.inside.stage } in
    receiving_room m c.args.self.now (g.P.Port.sight c.args.port.now) c.args.core.now c.in-Receiving.call c.requires.stands.0 c.requires.stands.1 c.args.dst.now c.known.ensures.few c.known.ensures.low c.requires.stands.2 c.in-Receiving.op
    (sym c.self.view_is ∙ (λ i. record m { stage = c.in-Receiving.is i }))

pub overflow_add-self : goal.overflow_add-self
overflow_add-self g c =
    let m : MoreAt = record { more = c.self.inside.more; len = c.self.inside.len; ended = c.self.inside.ended; stage = c.self.inside.stage } in
    let less : m.ended + 1 < 256 = receiving_fits m c.args.self.now (g.P.Port.sight c.args.port.now) c.args.core.now c.in-Receiving.call c.requires.stands.0 c.requires.stands.1 c.args.dst.now c.known.ensures.few c.known.ensures.low c.requires.stands.2 c.in-Receiving.op
    (sym c.self.view_is ∙ (λ i. record m { stage = c.in-Receiving.is i })) in
    omega (arith, less)

pub returns-in-Moved-clause-turns : goal.returns-in-Moved-clause-turns
returns-in-Moved-clause-turns g c =
    let m : MoreAt = record { more = c.self.inside.more; len = c.self.inside.len; ended = c.self.inside.ended; stage = c.self.inside.stage } in
    let long : length c.take_turn.new.dst ≡ length c.args.dst.now = omega (arith, c.take_turn.auto.dst) in
    λ slot src fit. receiving_moved m c.args.self.now _ (g.P.Port.sight c.args.port.now) (g.P.Port.sight c.take_turn.new.port) c.args.core.now c.take_turn.new.core c.in-Receiving.call slot src c.args.dst.now fit
    c.known.ensures.few c.known.ensures.low c.in-Receiving.op c.take_turn.new.op c.take_turn.new.dst (sym c.self.view_is ∙ (λ i. record m { stage = c.in-Receiving.is i })) c.in-Moved.ensures.stands long c.in-Moved.ensures.before c.in-Moved.ensures.afterwards refl c.in-Moved.ensures.turned

pub returns-in-Waiting-clause-turns : goal.returns-in-Waiting-clause-turns
returns-in-Waiting-clause-turns g c =
    let m : MoreAt = record { more = c.self.inside.more; len = c.self.inside.len; ended = c.self.inside.ended; stage = c.self.inside.stage } in
    let long : length c.take_turn.new.dst ≡ length c.args.dst.now = omega (arith, c.take_turn.auto.dst) in
    λ slot src fit. receiving_waited m c.args.self.now _ (g.P.Port.sight c.args.port.now) (g.P.Port.sight c.take_turn.new.port) c.args.core.now c.take_turn.new.core c.in-Receiving.call slot src c.args.dst.now fit
    c.known.ensures.few c.known.ensures.low c.in-Receiving.op c.take_turn.new.op c.take_turn.new.dst (sym c.self.view_is ∙ (λ i. record m { stage = c.in-Receiving.is i })) c.in-Waiting.ensures.stands long c.in-Waiting.ensures.before c.in-Waiting.ensures.afterwards c.in-Waiting.spot refl c.in-Waiting.ensures.turned

pub returns-in-Mismatch-clause-turns : goal.returns-in-Mismatch-clause-turns
returns-in-Mismatch-clause-turns g c =
    let m : MoreAt = record { more = c.self.inside.more; len = c.self.inside.len; ended = c.self.inside.ended; stage = c.self.inside.stage } in
    let long : length c.take_turn.new.dst ≡ length c.args.dst.now = omega (arith, c.take_turn.auto.dst) in
    λ slot src fit. receiving_refused m c.args.self.now _ (g.P.Port.sight c.args.port.now) (g.P.Port.sight c.take_turn.new.port) c.args.core.now c.take_turn.new.core c.in-Receiving.call slot src c.args.dst.now fit
    c.known.ensures.few c.known.ensures.low c.in-Receiving.op c.take_turn.new.op c.take_turn.new.dst (sym c.self.view_is ∙ (λ i. record m { stage = c.in-Receiving.is i })) c.in-Mismatch.ensures.stands long c.in-Mismatch.ensures.before c.in-Mismatch.ensures.afterwards c.in-Mismatch.sent refl c.in-Mismatch.ensures.turned

pub returns-in-Done-clause-turns : goal.returns-in-Done-clause-turns
returns-in-Done-clause-turns g c =
    let m : MoreAt = record { more = c.self.inside.more; len = c.self.inside.len; ended = c.self.inside.ended; stage = c.self.inside.stage } in
    let long : length c.take_turn.new.dst ≡ length c.args.dst.now = omega (arith, c.take_turn.auto.dst) in
    λ slot src fit. receiving_done m c.args.self.now _ (g.P.Port.sight c.args.port.now) (g.P.Port.sight c.take_turn.new.port) c.args.core.now c.take_turn.new.core c.in-Receiving.call slot src c.args.dst.now fit
    c.known.ensures.few c.known.ensures.low c.in-Receiving.op c.take_turn.new.op c.take_turn.new.dst (sym c.self.view_is ∙ (λ i. record m { stage = c.in-Receiving.is i })) c.in-Done.ensures.stands long c.in-Done.ensures.before c.in-Done.ensures.afterwards refl c.in-Done.ensures.turned
