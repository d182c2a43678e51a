use Rattle.std.proofs.Common.{◌≡◌, Option, Some, None, sym, ◌∙◌, ap}
use Rattle.rcce_audit.specs.Words.{◌>>=◌}
use Rattle.rcce_audit.proofs.lines.split_said.Goals as goal

module _ {A B : Type 0} (o p : Option A) (next : A → Option B) (gives : p ≡ o) where
  stops : p ≡ None → (o >>= next) ≡ None
  stops none = ap (λ (q : Option A). q >>= next) (sym gives ∙ none)

  goes : (x : A) → p ≡ Some x → (o >>= next) ≡ next x
  goes x some = ap (λ (q : Option A). q >>= next) (sym gives ∙ some)

pub returns-in_err-comm-clause-gives : goal.returns-in_err-comm-clause-gives
returns-in_err-comm-clause-gives c = c.from_residual.ensures ∙ sym (stops _ c.range_said.result _ c.range_said.ensures.gives c.in_err-comm.was)

pub returns-in_err-parent-clause-gives : goal.returns-in_err-parent-clause-gives
returns-in_err-parent-clause-gives c =
    c.from_residual-in_err-parent.ensures
    ∙ sym (goes _ c.range_said.result _ c.range_said.ensures.gives c.in_ok-comm.comm c.in_ok-comm.was ∙ stops _ c.range_said-2.result _ c.range_said-2.ensures.gives c.in_err-parent.was)

pub returns-in_err-k-clause-gives : goal.returns-in_err-k-clause-gives
returns-in_err-k-clause-gives c =
    c.from_residual-in_err-k.ensures
    ∙ sym (goes _ c.range_said.result _ c.range_said.ensures.gives c.in_ok-comm.comm c.in_ok-comm.was ∙ goes _ c.range_said-2.result _ c.range_said-2.ensures.gives c.in_ok-parent.parent c.in_ok-parent.was
    ∙ stops _ c.range_said-3.result _ c.range_said-3.ensures.gives c.in_err-k.was)

pub returns-in_err-rule-clause-gives : goal.returns-in_err-rule-clause-gives
returns-in_err-rule-clause-gives c =
    c.from_residual-in_err-rule.ensures
    ∙ sym (goes _ c.range_said.result _ c.range_said.ensures.gives c.in_ok-comm.comm c.in_ok-comm.was ∙ goes _ c.range_said-2.result _ c.range_said-2.ensures.gives c.in_ok-parent.parent c.in_ok-parent.was
    ∙ goes _ c.range_said-3.result _ c.range_said-3.ensures.gives c.in_ok-k.k c.in_ok-k.was ∙ stops _ c.rule_named.result _ c.rule_named.ensures c.in_err-rule.was)
