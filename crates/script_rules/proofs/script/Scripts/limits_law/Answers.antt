use Rattle.std.proofs.Common.{subst}
use Rattle.script_rules.specs.Script.{Script}
use Rattle.script_rules.specs.Settled.{IsWholeScript}
use Rattle.script_rules.proofs.AcceptanceLemmas.{printed-law, shallow-law, short-law, worked-law}
use Rattle.script_rules.proofs.script.Scripts.limits_law.Goals as goal

pub returns-clause-short : goal.returns-clause-short
returns-clause-short c = short-law c.args.self.now (subst (λ (s : Script). IsWholeScript s.nue s.items) c.self.view_is c.self.invariant.whole)

pub returns-clause-worked : goal.returns-clause-worked
returns-clause-worked c = worked-law c.args.self.now (subst (λ (s : Script). IsWholeScript s.nue s.items) c.self.view_is c.self.invariant.whole)

pub returns-clause-printed : goal.returns-clause-printed
returns-clause-printed c = printed-law c.args.self.now (subst (λ (s : Script). IsWholeScript s.nue s.items) c.self.view_is c.self.invariant.whole)

pub returns-clause-shallow : goal.returns-clause-shallow
returns-clause-shallow c = shallow-law c.args.self.now (subst (λ (s : Script). IsWholeScript s.nue s.items) c.self.view_is c.self.invariant.whole)
