use Rattle.std.proofs.Common.{◌≡◌, ℕ, arith, subst}
use Rattle.script_machine.specs.Passes.{IsFlat}
use Rattle.script_machine.proofs.Walks.FlatLaws.{flat_more, flat_start}
use Rattle.script_machine.proofs.nestings.is_flat.Goals as goal

pub loop-at-init : goal.loop-at-init
loop-at-init c = λ s. flat_start s c.args.rank c.args.scripts.now.items c.args.start

pub loop-at-preserved : goal.loop-at-preserved
loop-at-preserved c = λ s.
    flat_more s c.args.rank c.args.scripts.now.items c.args.start c.loop-at.at c.item.result.now c.item.ensures.found (c.stays.ensures c.if-not-stays.false) (c.loop-at.invariant s)

pub returns : goal.returns
returns c = λ yes s.
    let all : c.loop-at.at ≡ c.args.end = omega arith in
    subst (λ (n : ℕ). IsFlat s c.args.rank c.args.scripts.now.items c.args.start n) all (c.loop-at.invariant s)
