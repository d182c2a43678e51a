use Rattle.std.proofs.Common.{not, sym, ap, ◌∙◌, inl, inr}
use Rattle.std.proofs.lemmas.Bool.{cases_lt, false≢true}
use Rattle.script_rules.proofs.RuleLemmas.{absent-is}
use Rattle.script_rules.proofs.run.Run.is_known.Goals as goal

pub returns-clause-below : goal.returns-clause-below
returns-clause-below c = λ yes.
    elim (cases_lt c.args.comm 16) [
      | inl below ↦ below
      | inr past ↦ absurd (false≢true (sym (ap not (c.is_absent.ensures ∙ absent-is c.rule.result (c.rule.ensures.past past))) ∙ yes))
    ]

pub returns-clause-present : goal.returns-clause-present
returns-clause-present c = λ yes gone.
    absurd (false≢true (sym (ap not (c.is_absent.ensures ∙ absent-is c.rule.result (c.rule.ensures.gives ∙ gone))) ∙ yes))
