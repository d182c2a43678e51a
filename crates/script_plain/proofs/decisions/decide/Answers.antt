use Rattle.std.proofs.Common.{◌≡◌, ◌∙◌, ◌<◌, ℕ, ap, arith, length, refl, subst, sym}
use Rattle.std.proofs.lemmas.Option.{slice_get_read}
use Rattle.scc_base.specs.Setups.{setup_key}
use Rattle.script_plain.specs.Code.{call_decision, decision}
use Rattle.script_plain.specs.declared.steps.Step.TheVariants as step
use Rattle.script_plain.proofs.CodeSteps.StandLaws.{decided, decided_going}
use Rattle.script_plain.proofs.decisions.decide.Goals as goal

pub returns-then-is_going : goal.returns-then-is_going
returns-then-is_going c =
    let keys = setup_key c.args.setup.now in
    let ues = c.args.ues.now in
    let slots = c.args.slots.now in
    let k = c.number-i.result in
    let within : k < length ues = omega (arith, c.requires.rank, c.requires.run.ranks, c.number-i.ensures.gives) in
    let here = slice_get_read ues (length ues) k c.index-ues-i.result refl within c.index-ues-i.is in
    subst (λ (r : ℕ). step.Goes ≡ decision keys ues slots r) c.number-i.ensures.gives
    (decided_going keys ues slots k c.index-ues-i.result here (sym c.is_going.ensures ∙ c.if-is_going.true))

pub returns : goal.returns
returns c =
    let keys = setup_key c.args.setup.now in
    let ues = c.args.ues.now in
    let slots = c.args.slots.now in
    let k = c.number-i.result in
    let within : k < length ues = omega (arith, c.requires.rank, c.requires.run.ranks, c.number-i.ensures.gives) in
    let here = slice_get_read ues (length ues) k c.index-ues-i.result refl within c.index-ues-i.is in
    let same = c.decide_at.ensures ∙ ap (λ (r : ℕ). call_decision keys ues slots r c.call.result) (sym c.number-i.ensures.gives) in
    subst (λ (r : ℕ). c.decide_at.result ≡ decision keys ues slots r) c.number-i.ensures.gives
    (decided keys ues slots k c.index-ues-i.result c.call.result c.decide_at.result here (sym c.is_going.ensures ∙ c.if-is_going.false) (sym c.call.ensures) same)
