use Rattle.std.proofs.Common.{◌≡◌, ℕ, suc, ◌+◌, ◌∙◌, arith, subst, slice_get, Some}
use Rattle.scc_base.specs.Setups.{members_of}
use Rattle.groups.proofs.StepLemmas.{get_below, get_above}
use Rattle.groups.proofs.expansion.other_at.Goals.{then-before, else-before}
use Rattle.groups.proofs.expansion.other_at.Goals as goal

-- Names the goal, so that the prover rejects a wrong body at once, without a search.
pub returns : goal.returns
returns c =
    let all = members_of c.args.setup.now c.args.comm c.args.r in
    let Found : ℕ → Type 0 = λ i. slice_get all i ≡ Some c.member_at.result in
    let next : c.args.k + 1 ≡ suc c.args.k = omega arith in
    record {
      gives = elim c.if-before.branch [
        | then-before w ↦ get_below all c.args.place c.args.k c.member_at.result (omega (arith, w.if-before.true, c.from.ensures)) (subst Found w.i-is c.member_at.ensures.gives)
        | else-before w ↦ get_above all c.args.place c.args.k c.member_at.result (omega (arith, w.if-before.false, c.from.ensures)) (subst Found (w.i-is ∙ next) c.member_at.ensures.gives)
      ];
    }
