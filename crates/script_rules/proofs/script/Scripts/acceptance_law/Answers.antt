use Rattle.std.proofs.Common.{subst}
use Rattle.script_rules.specs.Script.{Script}
use Rattle.script_rules.specs.Settled.{IsWholeScript}
use Rattle.script_rules.proofs.AcceptanceLemmas.{fitting-law, postable-law, set-law, stays-law}
use Rattle.script_rules.proofs.script.Scripts.acceptance_law.Goals as goal

pub returns-clause-set : goal.returns-clause-set
returns-clause-set c = set-law c.args.self.now (subst (λ (s : Script). IsWholeScript s.nue s.items) c.self.view_is c.self.invariant.whole)

pub returns-clause-stays : goal.returns-clause-stays
returns-clause-stays c = stays-law c.args.self.now

pub returns-clause-fitting : goal.returns-clause-fitting
returns-clause-fitting c = fitting-law c.args.self.now (subst (λ (s : Script). IsWholeScript s.nue s.items) c.self.view_is c.self.invariant.whole)

pub returns-clause-postable : goal.returns-clause-postable
returns-clause-postable c = postable-law c.args.self.now (subst (λ (s : Script). IsWholeScript s.nue s.items) c.self.view_is c.self.invariant.whole)

pub returns-clause-whole : goal.returns-clause-whole
returns-clause-whole c = subst (λ (s : Script). IsWholeScript s.nue s.items) c.self.view_is c.self.invariant.whole
