use Rattle.std.proofs.Common.{◌≡◌, ◌≢◌, ◌+◌, refl, ap, arith}
use Rattle.barrier.specs.Stages.{BarAt}
use Rattle.barrier.proofs.StageLemmas.{size_here}
use Rattle.barrier.proofs.ReleaseTurn.{releasing, release_may, release_ends, release_goes}
use Rattle.barrier.proofs.ops.BarOp.release.Goals as goal

pub store_word-requires-clause-permitted : goal.store_word-requires-clause-permitted
store_word-requires-clause-permitted g c =
    let k = ap (λ (x : BarAt). x.comm) c.self.view_is in
    let l = releasing c.requires.stands c.args.released _ _ c.self.inside.comm c.requires.stage c.known.ensures.valid
    k c.member-next.ensures.gives c.member-next.ensures.placed c.value-value.ensures.gives in
    release_may l c.self.inside.comm k _ c.release_flag-flag.ensures.gives

pub returns-then-size-released-eq2 : goal.returns-then-size-released-eq2
returns-then-size-released-eq2 g c =
    let k = ap (λ (x : BarAt). x.comm) c.self.view_is in
    let l = releasing c.requires.stands c.args.released _ _ c.self.inside.comm c.requires.stage c.known.ensures.valid
    k c.member-next.ensures.gives c.member-next.ensures.placed c.value-value.ensures.gives in
    let size = size_here (g.P.Port.sight c.args.port.now) c.args.self.now _ c.self.inside.comm _ _ c.setup.ensures.gives k c.rank-own.ensures.gives c.group_size-size.ensures.gives in
    let test = c.if-size-released-eq2.true in
    let last : c.args.released + 2 ≡ c.group_size-size.result = omega (arith, test) in
    record { stands = (release_ends l c.self.inside.comm k _ c.release_flag-flag.ensures.gives c.store_word.ensures.stores _ k _ size c.stage_after_release-self-inside.ensures.gives last).0; turned = (release_ends l c.self.inside.comm k _ c.release_flag-flag.ensures.gives c.store_word.ensures.stores _ k _ size c.stage_after_release-self-inside.ensures.gives last).1; goes_on = refl }

pub returns : goal.returns
returns g c =
    let k = ap (λ (x : BarAt). x.comm) c.self.view_is in
    let l = releasing c.requires.stands c.args.released _ _ c.self.inside.comm c.requires.stage c.known.ensures.valid
    k c.member-next.ensures.gives c.member-next.ensures.placed c.value-value.ensures.gives in
    let size = size_here (g.P.Port.sight c.args.port.now) c.args.self.now _ c.self.inside.comm _ _ c.setup.ensures.gives k c.rank-own.ensures.gives c.group_size-size.ensures.gives in
    let more : c.args.released + 2 ≢ c.group_size-size.result = λ q. c.if-size-released-eq2.false (omega (arith, q)) in
    record { stands = (release_goes l c.self.inside.comm k _ c.release_flag-flag.ensures.gives c.store_word.ensures.stores _ k _ size c.stage_after_release-self-inside.ensures.gives more).0; turned = (release_goes l c.self.inside.comm k _ c.release_flag-flag.ensures.gives c.store_word.ensures.stores _ k _ size c.stage_after_release-self-inside.ensures.gives more).1; goes_on = refl }
