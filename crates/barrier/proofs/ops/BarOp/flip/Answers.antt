use Rattle.std.proofs.Common.{refl, ap, ◌∙◌}
use Rattle.barrier.specs.Flags.{gather_word}
use Rattle.barrier.specs.Stages.{BarAt}
use Rattle.barrier.proofs.StageLemmas.{size_here, place_here}
use Rattle.barrier.proofs.FlipTurn.{FlipPlace, flipping, flip_may, flip_ends, flip_goes}
use Rattle.barrier.proofs.ops.BarOp.flip.Goals as goal

pub store_word-requires-clause-permitted : goal.store_word-requires-clause-permitted
store_word-requires-clause-permitted g c =
    let k = ap (λ (x : BarAt). x.comm) c.self.view_is in
    let l = flipping c.requires.stands c.flip.new.self _ c.self.inside.comm _ c.requires.stage c.known.ensures.valid c.rank-own.ensures.gives c.rank-own.ensures.below
    k c.flip.ensures.flipped c.flip.ensures.others c.value-value.ensures.gives in
    let at = c.gather_flag-flag.ensures.gives ∙ (λ i. gather_word (g.P.Port.sight c.args.port.now).seat (k i) (c.rank-own.ensures.gives i)) in
    flip_may l _ at

pub returns-then-size-eq1 : goal.returns-then-size-eq1
returns-then-size-eq1 g c =
    let k = ap (λ (x : BarAt). x.comm) c.self.view_is in
    let l = flipping c.requires.stands c.flip.new.self _ c.self.inside.comm _ c.requires.stage c.known.ensures.valid c.rank-own.ensures.gives c.rank-own.ensures.below
    k c.flip.ensures.flipped c.flip.ensures.others c.value-value.ensures.gives in
    let at = c.gather_flag-flag.ensures.gives ∙ (λ i. gather_word (g.P.Port.sight c.args.port.now).seat (k i) (c.rank-own.ensures.gives i)) in
    let size = size_here (g.P.Port.sight c.args.port.now) c.args.self.now _ c.self.inside.comm _ _ c.setup.ensures.gives k c.rank-own.ensures.gives c.group_size-size.ensures.gives in
    let own = place_here (g.P.Port.sight c.args.port.now) c.args.self.now _ c.self.inside.comm _ _ c.setup-2.ensures.gives k c.rank-own.ensures.gives c.place-place.ensures.gives in
    let p : FlipPlace (g.P.Port.sight c.args.port.now) c.args.self.now c.gather_flag-flag.result c.group_size-size.result c.place-place.result = record { at = at; size_is = size; own_is = own } in
    record { stands = (flip_ends l p c.store_word.ensures.stores _ k c.stage_after_flip-self-inside.ensures.gives c.if-size-eq1.true).0; turned = (flip_ends l p c.store_word.ensures.stores _ k c.stage_after_flip-self-inside.ensures.gives c.if-size-eq1.true).1; goes_on = refl }

pub returns : goal.returns
returns g c =
    let k = ap (λ (x : BarAt). x.comm) c.self.view_is in
    let l = flipping c.requires.stands c.flip.new.self _ c.self.inside.comm _ c.requires.stage c.known.ensures.valid c.rank-own.ensures.gives c.rank-own.ensures.below
    k c.flip.ensures.flipped c.flip.ensures.others c.value-value.ensures.gives in
    let at = c.gather_flag-flag.ensures.gives ∙ (λ i. gather_word (g.P.Port.sight c.args.port.now).seat (k i) (c.rank-own.ensures.gives i)) in
    let size = size_here (g.P.Port.sight c.args.port.now) c.args.self.now _ c.self.inside.comm _ _ c.setup.ensures.gives k c.rank-own.ensures.gives c.group_size-size.ensures.gives in
    let own = place_here (g.P.Port.sight c.args.port.now) c.args.self.now _ c.self.inside.comm _ _ c.setup-2.ensures.gives k c.rank-own.ensures.gives c.place-place.ensures.gives in
    let p : FlipPlace (g.P.Port.sight c.args.port.now) c.args.self.now c.gather_flag-flag.result c.group_size-size.result c.place-place.result = record { at = at; size_is = size; own_is = own } in
    record { stands = (flip_goes l p c.store_word.ensures.stores _ k c.stage_after_flip-self-inside.ensures.gives c.if-size-eq1.false).0; turned = (flip_goes l p c.store_word.ensures.stores _ k c.stage_after_flip-self-inside.ensures.gives c.if-size-eq1.false).1; goes_on = refl }
