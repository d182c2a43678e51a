use Rattle.std.proofs.Common.{ap, codes, sym, ◌∙◌}
use Rattle.std.proofs.lemmas.Bool.{false≢true}
use Rattle.scc_mesh.specs.Scenes.{is_chip_open}
use Rattle.rcce_words.specs.ScriptWords.{job_command}
use Rattle.audit_program.specs.Program.{log_run_plan}
use Rattle.audit_program.proofs.RunPlanLemmas.{ends_complained, ends_ran}
use Rattle.audit_program.proofs.logging.log_job.Goals as goal

pub returns-in-Ok : goal.returns-in-Ok
returns-in-Ok g c = record {
  ends = ends_ran (job_command c.args.job) _ _ _ _ _ _ _ c.in-Ok.ensures.reads c.log_script.ensures.ran;
  legal = c.log_script.ensures.legal;
}

pub returns-in-Err : goal.returns-in-Err
returns-in-Err g c =
    let file = c.args.job.script.now in
    let came = c.in-Err.ensures.reads (codes "rcceaudit") (log_run_plan file) in
    record {
      ends = ends_complained (job_command c.args.job) (g.F.Files.seen c.args.files.now) (g.F.Files.seen c.read_script_file.new.files) _ c.in-Err.complaint _ _ _ came c.deliver.ensures c.requires.blank;
      legal = λ opened. absurd (false≢true (sym (ap is_chip_open c.requires.blank) ∙ opened));
    }
