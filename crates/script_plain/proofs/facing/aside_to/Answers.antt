use Rattle.std.proofs.Common.{◌≡◌, ◌≢◌, ◌∙◌, ap, arith, subst, sym, ⊎_elim}
use Rattle.std.proofs.lemmas.Bool.{cases_eq}
use Rattle.script_machine.specs.declared.facing.Facing.{Facing}
use Rattle.script_plain.specs.Facing.{IsAside, facing_at, heeds}
use Rattle.script_plain.proofs.facing.aside_to.Goals as goal

pub loop-number-preserved : goal.loop-number-preserved
loop-number-preserved c =
    let ues = c.args.ues.now in
    let number = c.loop-number.number in
    let facing : c.facing_at-facing.result ≡ facing_at ues number = c.facing_at-facing.ensures ∙ ap (facing_at ues) c.of.ensures.gives in
    let here : IsAside ues c.args.rank c.args.other number = record {
      apart = λ e. c.if-number.false (e ∙ sym c.number.ensures.gives);
      one = ap (λ (f : Facing). heeds f c.args.rank (facing_at ues c.args.rank)) (sym facing) ∙ ap (heeds c.facing_at-facing.result c.args.rank) (sym c.facing_at-here.ensures) ∙ sym c.heeds.ensures ∙ c.if-heeds.false;
      other = ap (λ (f : Facing). heeds f c.args.other (facing_at ues c.args.other)) (sym facing) ∙ ap (heeds c.facing_at-facing.result c.args.other) (sym c.facing_at-there.ensures) ∙ sym c.heeds-else-heeds.ensures ∙ c.if-heeds-2.false;
    } in
    record {
      aside = λ k below.
          ⊎_elim
          (λ (same : k ≡ number). subst (IsAside ues c.args.rank c.args.other) (sym same) here)
          (λ (apart : k ≢ number). c.loop-number.invariant.aside k (omega (arith, below, apart)))
          (cases_eq k number);
    }
