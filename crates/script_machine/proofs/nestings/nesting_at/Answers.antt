use Rattle.std.proofs.Common.{◌≡◌, ◌∙◌, Bool, true, false, cond, ap, refl, sym}
use Rattle.script_rules.specs.Effects.{effect_of}
use Rattle.script_rules.specs.Script.{has_rank}
use Rattle.script_rules.specs.declared.effect.Effect.{Effect}
use Rattle.script_rules.specs.declared.effect.Nesting.{Nesting}
use Rattle.script_rules.specs.declared.effect.Nesting.TheVariants as nesting
use Rattle.script_machine.proofs.nestings.nesting_at.Goals as goal

-- what does nothing to the repeats does nothing at any rank
stays_there : (b : Bool) (n : Nesting) → n ≡ nesting.Stays → nesting.Stays ≡ cond b n nesting.Stays
stays_there true n is = sym is
stays_there false n is = refl

pub returns-in-Stays : goal.returns-in-Stays
returns-in-Stays c =
    stays_there (has_rank c.args.item.now.who c.args.rank) (effect_of c.args.item.now.stmt).nesting
    (ap (λ (e : Effect). e.nesting) (sym c.effect_of-nesting.ensures) ∙ c.in-Stays.is)
