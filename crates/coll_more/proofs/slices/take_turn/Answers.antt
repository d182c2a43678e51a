use Rattle.std.proofs.Common.{◌≡◌, ◌+◌, ◌++◌, ℕ, List, length, drop, take, sym, ap, ◌∙◌, subst, arith}
use Rattle.std.proofs.lemmas.List.{take_at}
use Rattle.send_recv.specs.Receiving.{RecvStands, RecvTurned}
use Rattle.send_recv.specs.Ranks.{receiving}
use Rattle.coll_more.specs.Ops.{window}
use Rattle.coll_more.proofs.WindowLemmas.{drop_part, window_part, window_of_parts}
use Rattle.coll_more.proofs.slices.take_turn.Goals as goal

pub split_at_mut-part-requires : goal.split_at_mut-part-requires
split_at_mut-part-requires g c = omega (arith, c.requires.within, c.split_at_mut-rest.ensures.back_len)

pub turn-requires : goal.turn-requires
turn-requires g c = record {
  stands = subst (λ (x : List ℕ). RecvStands (g.P.Port.sight c.args.port.now) c.args.core.now c.args.op.now x)
      (window_of_parts c.args.dst.now c.split_at_mut-rest.result.0.now c.split_at_mut-rest.result.1.now c.split_at_mut-part.result.0.now c.split_at_mut-part.result.1.now
      c.args.first c.args.len c.split_at_mut-rest.ensures.value c.split_at_mut-part.ensures.value c.split_at_mut-rest.ensures.front_len c.split_at_mut-part.ensures.front_len) c.requires.stands;
}

pub returns-clause-stands : goal.returns-clause-stands
returns-clause-stands g c =
    let part = c.split_at_mut-part.ensures.front_len in
    let long : length c.turn.new.bytes ≡ c.args.len = omega (arith, c.turn.auto.bytes, part) in
    subst (λ (x : List ℕ). RecvStands (g.P.Port.sight c.turn.new.port) c.turn.new.core c.turn.new.self x)
    (sym (window_part c.split_at_mut-rest.result.0.now c.turn.new.bytes c.split_at_mut-part.result.1.now c.args.first c.args.len c.split_at_mut-rest.ensures.front_len long)) c.turn.ensures.stands

pub returns-clause-turned : goal.returns-clause-turned
returns-clause-turned g c =
    let part = c.split_at_mut-part.ensures.front_len in
    let long : length c.turn.new.bytes ≡ c.args.len = omega (arith, c.turn.auto.bytes, part) in
    subst (λ (x : List ℕ). RecvTurned (receiving (g.P.Port.sight c.args.port.now) c.args.core.now c.args.op.now (window c.args.first c.args.len c.args.dst.now))
    (receiving (g.P.Port.sight c.turn.new.port) c.turn.new.core c.turn.new.self x) c.turn.result)
    (sym (window_part c.split_at_mut-rest.result.0.now c.turn.new.bytes c.split_at_mut-part.result.1.now c.args.first c.args.len c.split_at_mut-rest.ensures.front_len long))
    (subst (λ (x : List ℕ). RecvTurned (receiving (g.P.Port.sight c.args.port.now) c.args.core.now c.args.op.now x)
    (receiving (g.P.Port.sight c.turn.new.port) c.turn.new.core c.turn.new.self c.turn.new.bytes) c.turn.result)
    (sym (window_of_parts c.args.dst.now c.split_at_mut-rest.result.0.now c.split_at_mut-rest.result.1.now c.split_at_mut-part.result.0.now c.split_at_mut-part.result.1.now
    c.args.first c.args.len c.split_at_mut-rest.ensures.value c.split_at_mut-part.ensures.value c.split_at_mut-rest.ensures.front_len part)) c.turn.ensures.turned)

pub returns-clause-steps : goal.returns-clause-steps
returns-clause-steps g c = c.turn.ensures.steps

pub returns-clause-before : goal.returns-clause-before
returns-clause-before g c =
    take_at c.split_at_mut-rest.result.0.now (c.turn.new.bytes ++ c.split_at_mut-part.result.1.now) c.args.first c.split_at_mut-rest.ensures.front_len
    ∙ sym (ap (take c.args.first) c.split_at_mut-rest.ensures.value
    ∙ take_at c.split_at_mut-rest.result.0.now c.split_at_mut-rest.result.1.now c.args.first c.split_at_mut-rest.ensures.front_len)

pub returns-clause-afterwards : goal.returns-clause-afterwards
returns-clause-afterwards g c =
    let part = c.split_at_mut-part.ensures.front_len in
    let long : length c.turn.new.bytes ≡ c.args.len = omega (arith, c.turn.auto.bytes, part) in
    drop_part c.split_at_mut-rest.result.0.now c.turn.new.bytes c.split_at_mut-part.result.1.now c.args.first c.args.len c.split_at_mut-rest.ensures.front_len long
    ∙ sym (ap (drop (c.args.first + c.args.len)) (c.split_at_mut-rest.ensures.value ∙ ap (λ (x : List ℕ). c.split_at_mut-rest.result.0.now ++ x) c.split_at_mut-part.ensures.value)
    ∙ drop_part c.split_at_mut-rest.result.0.now c.split_at_mut-part.result.0.now c.split_at_mut-part.result.1.now c.args.first c.args.len c.split_at_mut-rest.ensures.front_len part)
