use Rattle.std.proofs.Common.{List, ◌∙◌, ap, subst, sym}
use Rattle.scc_base.specs.Communicators.{AreRules}
use Rattle.scc_base.specs.declared.communicators.CommRule.{CommRule}
use Rattle.script_rules.specs.Script.{rules_of}
use Rattle.script_rules.proofs.script.Scripts.comm_rules.Goals as goal

pub returns-clause-valid : goal.returns-clause-valid
returns-clause-valid c = subst (λ (r : List CommRule). AreRules r) (sym (c.rules_of.ensures ∙ ap rules_of c.as_slice.ensures.value)) c.self.invariant.whole.rules
