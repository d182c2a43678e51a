use Rattle.std.proofs.Common.{sym, ◌∙◌, ap, subst, ◌<◌, arith}
use Rattle.scc_base.specs.Numbers.{register_number}
use Rattle.scc_mesh.specs.Spaces.{SpaceView}
use Rattle.scc_mesh.proofs.Allowed.{allowed_load, allowed_store, allowed_take, allowed_free, made_so}
use Rattle.scc_mesh.proofs.space.Space.make_as.Goals as goal

pub load-requires : goal.load-requires
load-requires g c =
    let w = c.self.inside.table.shared in
    let seat = c.args.seat.now in
    let key = c.self.invariant.0 ∙ ap (λ (v : SpaceView). v.about) c.self.view_is in
    let number = c.number_of_word.ensures in (
      c.requires.table ∙ sym (ap (λ (v : SpaceView). v.table) c.self.view_is),
      omega (arith, c.self.invariant.1, number.below),
      allowed_load w.key c.args.self.now.about key w.table_id.slots seat.id seat.me g.N.Aim.about g.N.Aim.rank c.args.rank g.N.Aim.event c.args.access c.args.place c.args.value
          c.requires.aim c.requires.known c.requires.permitted c.in-Load.is number.place _ (number.gives),
    )

pub store-requires : goal.store-requires
store-requires g c =
    let w = c.self.inside.table.shared in
    let seat = c.args.seat.now in
    let key = c.self.invariant.0 ∙ ap (λ (v : SpaceView). v.about) c.self.view_is in
    let number = c.number_of_word-in-Store.ensures in (
      c.requires.table ∙ sym (ap (λ (v : SpaceView). v.table) c.self.view_is),
      omega (arith, c.self.invariant.1, number.below),
      allowed_store w.key c.args.self.now.about key w.table_id.slots seat.id seat.me g.N.Aim.about g.N.Aim.rank c.args.rank g.N.Aim.event c.args.access c.args.place c.args.value
          c.requires.aim c.requires.known c.requires.permitted c.in-Store.is number.place c.ranges.value.fits _ (number.gives),
    )

pub swap-requires : goal.swap-requires
swap-requires g c =
    let w = c.self.inside.table.shared in
    let seat = c.args.seat.now in
    let key = c.self.invariant.0 ∙ ap (λ (v : SpaceView). v.about) c.self.view_is in
    let number = c.number_of_register.ensures in (
      c.requires.table ∙ sym (ap (λ (v : SpaceView). v.table) c.self.view_is),
      omega (arith, c.self.invariant.1, number.below),
      allowed_take w.key c.args.self.now.about key w.table_id.slots seat.id seat.me g.N.Aim.about g.N.Aim.rank c.args.rank g.N.Aim.event c.args.access c.args.place c.args.value
          c.requires.aim c.requires.known c.requires.permitted c.in-Take.is (subst (λ k. k < 48) c.core.ensures.gives number.core) _ (number.gives ∙ ap register_number c.core.ensures.gives),
    )

pub store-requires-in-Free : goal.store-requires-in-Free
store-requires-in-Free g c =
    let w = c.self.inside.table.shared in
    let seat = c.args.seat.now in
    let key = c.self.invariant.0 ∙ ap (λ (v : SpaceView). v.about) c.self.view_is in
    let number = c.number_of_register-in-Free.ensures in (
      c.requires.table ∙ sym (ap (λ (v : SpaceView). v.table) c.self.view_is),
      omega (arith, c.self.invariant.1, number.below),
      allowed_free w.key c.args.self.now.about key w.table_id.slots seat.id seat.me g.N.Aim.about g.N.Aim.rank c.args.rank g.N.Aim.event c.args.access c.args.place c.args.value
          c.requires.aim c.requires.known c.requires.permitted c.in-Free.is (subst (λ k. k < 48) c.core-in-Free.ensures.gives number.core) _ (number.gives ∙ ap register_number c.core-in-Free.ensures.gives),
    )

pub returns-in-Load-clause-made : goal.returns-in-Load-clause-made
returns-in-Load-clause-made g c = made_so c.load.result c.requires.aim c.load.ensures.2.0

pub returns-in-Store-clause-made : goal.returns-in-Store-clause-made
returns-in-Store-clause-made g c = made_so c.args.value c.requires.aim c.store.ensures.2.0

pub returns-in-Take-clause-made : goal.returns-in-Take-clause-made
returns-in-Take-clause-made g c = made_so c.swap.result c.requires.aim c.swap.ensures.2.0

pub returns-in-Free-clause-made : goal.returns-in-Free-clause-made
returns-in-Free-clause-made g c = made_so 0 c.requires.aim c.store-in-Free.ensures.2.0
