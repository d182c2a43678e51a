use Rattle.std.proofs.Common.{ℕ, ◌==◌, ◌∙◌, ap, sym}
use Rattle.scc_proto.proofs.Tests.{eqb_same, true_not_false}
use Rattle.rank_monitor.proofs.StepLaws.{leads_not}
use Rattle.rank_monitor.proofs.steps.leads.Goals as goal

pub returns-else-eq : goal.returns-else-eq
returns-else-eq c = record {
  tells = c.if-eq.false ∙ leads_not c.args.setup.now c.args.comm c.args.root c.args.of (λ same. true_not_false (sym (eqb_same c.root-2.result)
      ∙ ap (λ (r : ℕ). r == c.root-2.result) (sym (c.root.ensures.gives ∙ same ∙ sym c.root-2.ensures.gives)) ∙ sym c.eq.ensures ∙ c.if-eq.false));
}
