use Rattle.std.proofs.Common.{◌∙◌, ◌+◌, sym, subst}
use Rattle.scc_base.specs.Setups.{setup_key}
use Rattle.scc_proto.specs.Legality.{in_group}
use Rattle.rcce_audit.specs.declared.progress.Progress.{Progress}
use Rattle.rcce_audit.specs.Standings.{Meets}
use Rattle.rcce_audit.specs.Views.{data_lists}
use Rattle.rcce_audit.proofs.StepLemmas.{meets_member, meets_other}
use Rattle.rcce_audit.proofs.steps.meet.Goals as goal
use Rattle.rcce_audit.proofs.steps.meet.Goals.{then-is_in_group, else-is_in_group}

pub loop-other-preserved : goal.loop-other-preserved
loop-other-preserved c =
    let s = c.args.setup.now in
    let lists = data_lists c.args.lists.now in
    let group = in_group s.nue (setup_key s) c.args.comm c.args.rank in
    let n = c.loop-other.other in
    elim c.if-is_in_group.branch [
      | then-is_in_group w ↦
          subst (λ (p : Progress). Meets s lists group (n + 1) c.args.progress.now p) (sym w.progress-is)
          (meets_member s lists group n c.args.progress.now c.loop-other.progress w.advance.new.progress c.loop-other.invariant (sym c.is_in_group.ensures ∙ w.if-is_in_group.true) w.advance.ensures)
      | else-is_in_group w ↦
          subst (λ (p : Progress). Meets s lists group (n + 1) c.args.progress.now p) (sym w.progress-is)
          (meets_other s lists group n c.args.progress.now c.loop-other.progress c.loop-other.invariant (sym c.is_in_group.ensures ∙ w.if-is_in_group.false))
    ]
