use Rattle.std.proofs.Common.{ap, refl}
use Rattle.barrier.specs.Stages.{BarAt}
use Rattle.barrier.proofs.AwaitTurn.{awaiting, await_waits, await_sees}
use Rattle.barrier.proofs.ops.BarOp.look_release.Goals as goal

pub returns-then-look_word-value-clause-stands : goal.returns-then-look_word-value-clause-stands
returns-then-look_word-value-clause-stands g c =
    let k = ap (λ (x : BarAt). x.comm) c.self.view_is in
    let l = awaiting c.requires.stands _ c.self.inside.comm _ c.requires.stage c.known.ensures.valid c.rank-own.ensures.gives c.rank-own.ensures.below k c.value-value.ensures.gives in
    (await_waits l c.self.inside.comm _ k c.rank-own.ensures.gives _ c.release_flag-flag.ensures.gives _ c.look_word.ensures.looks c.if-look_word-value.true).0

pub returns-then-look_word-value-clause-turned : goal.returns-then-look_word-value-clause-turned
returns-then-look_word-value-clause-turned g c =
    let k = ap (λ (x : BarAt). x.comm) c.self.view_is in
    let l = awaiting c.requires.stands _ c.self.inside.comm _ c.requires.stage c.known.ensures.valid c.rank-own.ensures.gives c.rank-own.ensures.below k c.value-value.ensures.gives in
    (await_waits l c.self.inside.comm _ k c.rank-own.ensures.gives _ c.release_flag-flag.ensures.gives _ c.look_word.ensures.looks c.if-look_word-value.true).1

pub returns-clause-stands : goal.returns-clause-stands
returns-clause-stands g c =
    let k = ap (λ (x : BarAt). x.comm) c.self.view_is in
    let l = awaiting c.requires.stands _ c.self.inside.comm _ c.requires.stage c.known.ensures.valid c.rank-own.ensures.gives c.rank-own.ensures.below k c.value-value.ensures.gives in
    (await_sees l c.self.inside.comm _ k c.rank-own.ensures.gives _ c.release_flag-flag.ensures.gives _ c.look_word.ensures.looks c.if-look_word-value.false _ k refl).0

pub returns-clause-turned : goal.returns-clause-turned
returns-clause-turned g c =
    let k = ap (λ (x : BarAt). x.comm) c.self.view_is in
    let l = awaiting c.requires.stands _ c.self.inside.comm _ c.requires.stage c.known.ensures.valid c.rank-own.ensures.gives c.rank-own.ensures.below k c.value-value.ensures.gives in
    (await_sees l c.self.inside.comm _ k c.rank-own.ensures.gives _ c.release_flag-flag.ensures.gives _ c.look_word.ensures.looks c.if-look_word-value.false _ k refl).1
