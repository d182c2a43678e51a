use Rattle.std.proofs.Common.{◌≡◌, length, refl, sym, ap, ◌∙◌, subst, arith}
use Rattle.std.specs.Prelude.{IsTrue}
use Rattle.coll_more.specs.Ops.{MoreAt, taking_part}
use Rattle.coll_more.specs.Standing.{Stands}
use Rattle.coll_more.specs.Tables.{has_own}
use Rattle.coll_more.specs.Turns.{is_copying_own}
use Rattle.coll_more.proofs.OpAnswers.{at_own, has_there, owned, room_given, room_within}
use Rattle.coll_more.proofs.ops.MoreOp.copy_own.Goals as goal

pub copy_if-requires-clause-given : goal.copy_if-requires-clause-given
copy_if-requires-clause-given g c =
    let m : MoreAt = record { more = c.self.inside.more; len = c.self.inside.len; ended = c.self.inside.ended; stage = c.self.inside.stage } in
    let there = subst (λ (x : MoreAt). Stands (taking_part (g.P.Port.sight c.args.port.now) c.requires.stands.0 x c.requires.stands.1 c.args.src.now c.args.dst.now)) (sym c.self.view_is) c.requires.stands.2 in
    λ on. room_given m (g.P.Port.sight c.args.port.now) c.args.src.now c.args.dst.now c.known.ensures.low there.1.fits c.number.result c.copies_own.result (c.number.ensures.gives ∙ c.rank-rank.ensures.gives)
    (c.copies_own.ensures.gives ∙ ap (has_own m.more) c.rank-rank.ensures.gives) on

pub copy_if-requires-clause-within : goal.copy_if-requires-clause-within
copy_if-requires-clause-within g c =
    let m : MoreAt = record { more = c.self.inside.more; len = c.self.inside.len; ended = c.self.inside.ended; stage = c.self.inside.stage } in
    let there = subst (λ (x : MoreAt). Stands (taking_part (g.P.Port.sight c.args.port.now) c.requires.stands.0 x c.requires.stands.1 c.args.src.now c.args.dst.now)) (sym c.self.view_is) c.requires.stands.2 in
    λ on. room_within m (g.P.Port.sight c.args.port.now) c.args.src.now c.args.dst.now c.known.ensures.low there.1.fits c.number.result c.copies_own.result (c.number.ensures.gives ∙ c.rank-rank.ensures.gives)
    (c.copies_own.ensures.gives ∙ ap (has_own m.more) c.rank-rank.ensures.gives) on

pub returns-clause-turns : goal.returns-clause-turns
returns-clause-turns g c =
    let m : MoreAt = record { more = c.self.inside.more; len = c.self.inside.len; ended = c.self.inside.ended; stage = c.self.inside.stage } in
    let long : length c.copy_if.new.dst ≡ length c.args.dst.now = omega (arith, c.copy_if.auto.dst) in
    λ core slot fit. owned m c.args.self.now _ (g.P.Port.sight c.args.port.now) core slot c.args.src.now c.args.dst.now fit c.copy_if.new.dst
    (sym c.self.view_is ∙ at_own m (subst (λ (x : MoreAt). IsTrue (is_copying_own x.stage)) (sym c.self.view_is) c.requires.own)) refl long
    (has_there m (g.P.Port.sight c.args.port.now) c.args.src.now c.copy_if.new.dst c.number.result c.copies_own.result (c.number.ensures.gives ∙ c.rank-rank.ensures.gives)
    (c.copies_own.ensures.gives ∙ ap (has_own m.more) c.rank-rank.ensures.gives) c.copy_if.ensures.copied)
