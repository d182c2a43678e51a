use Rattle.std.proofs.Common.{ap}
use Rattle.barrier.specs.Stages.{BarAt}
use Rattle.barrier.proofs.StageLemmas.{size_here}
use Rattle.barrier.proofs.GatherTurn.{looking, gather_waits, gather_sees}
use Rattle.barrier.proofs.ops.BarOp.look_gather.Goals as goal

pub returns-then-look_word-value-clause-stands : goal.returns-then-look_word-value-clause-stands
returns-then-look_word-value-clause-stands g c =
    let k = ap (λ (x : BarAt). x.comm) c.self.view_is in
    let l = looking c.requires.stands c.args.seen _ _ c.self.inside.comm _ c.requires.stage c.known.ensures.valid c.rank-own.ensures.gives c.rank-own.ensures.below
    k c.member-next.ensures.gives c.member-next.ensures.placed c.value-value.ensures.gives in
    (gather_waits l c.self.inside.comm k _ c.gather_flag-flag.ensures.gives _ c.look_word.ensures.looks c.if-look_word-value.true).0

pub returns-then-look_word-value-clause-turned : goal.returns-then-look_word-value-clause-turned
returns-then-look_word-value-clause-turned g c =
    let k = ap (λ (x : BarAt). x.comm) c.self.view_is in
    let l = looking c.requires.stands c.args.seen _ _ c.self.inside.comm _ c.requires.stage c.known.ensures.valid c.rank-own.ensures.gives c.rank-own.ensures.below
    k c.member-next.ensures.gives c.member-next.ensures.placed c.value-value.ensures.gives in
    (gather_waits l c.self.inside.comm k _ c.gather_flag-flag.ensures.gives _ c.look_word.ensures.looks c.if-look_word-value.true).1

pub returns-clause-stands : goal.returns-clause-stands
returns-clause-stands g c =
    let k = ap (λ (x : BarAt). x.comm) c.self.view_is in
    let l = looking c.requires.stands c.args.seen _ _ c.self.inside.comm _ c.requires.stage c.known.ensures.valid c.rank-own.ensures.gives c.rank-own.ensures.below
    k c.member-next.ensures.gives c.member-next.ensures.placed c.value-value.ensures.gives in
    let size = size_here (g.P.Port.sight c.args.port.now) c.args.self.now _ c.self.inside.comm _ _ c.setup.ensures.gives k c.rank-own.ensures.gives c.group_size-size.ensures.gives in
    (gather_sees l c.self.inside.comm k _ c.gather_flag-flag.ensures.gives _ c.look_word.ensures.looks c.if-look_word-value.false _ k _ size c.stage_after_seen-self-inside.ensures.gives).0

pub returns-clause-turned : goal.returns-clause-turned
returns-clause-turned g c =
    let k = ap (λ (x : BarAt). x.comm) c.self.view_is in
    let l = looking c.requires.stands c.args.seen _ _ c.self.inside.comm _ c.requires.stage c.known.ensures.valid c.rank-own.ensures.gives c.rank-own.ensures.below
    k c.member-next.ensures.gives c.member-next.ensures.placed c.value-value.ensures.gives in
    let size = size_here (g.P.Port.sight c.args.port.now) c.args.self.now _ c.self.inside.comm _ _ c.setup.ensures.gives k c.rank-own.ensures.gives c.group_size-size.ensures.gives in
    (gather_sees l c.self.inside.comm k _ c.gather_flag-flag.ensures.gives _ c.look_word.ensures.looks c.if-look_word-value.false _ k _ size c.stage_after_seen-self-inside.ensures.gives).1
