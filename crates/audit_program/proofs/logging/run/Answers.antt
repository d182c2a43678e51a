use Rattle.std.proofs.Common.{ap, codes, sym, ◌∙◌}
use Rattle.std.proofs.lemmas.Bool.{false≢true}
use Rattle.scc_mesh.specs.Scenes.{is_chip_open}
use Rattle.outcomes.proofs.ReadingLemmas.{lacks_memory}
use Rattle.audit_program.specs.Program.{log_run_plan}
use Rattle.audit_program.proofs.RunPlanLemmas.{has_logged}
use Rattle.audit_program.proofs.logging.run.Goals as goal

pub returns-in-Ok : goal.returns-in-Ok
returns-in-Ok c =
    let script = c.args.scripts.now in
    let has = has_logged script _ _ c.acceptance_law.ensures.whole c.setup_by.ensures c.in-Ok.ensures.history in
    record { launched = λ file. (c.in-Ok.ensures.run, c.requires.room, has); legal = λ opened. has.run.legal }

pub returns-in-Err : goal.returns-in-Err
returns-in-Err c = record {
  launched = λ file. (λ files. lacks_memory (codes "rcceaudit") (log_run_plan file c.args.scripts.now) files, c.in-Err.ensures.refused);
  legal = λ opened. absurd (false≢true (sym (ap is_chip_open c.in-Err.ensures.refused) ∙ opened));
}
