use Rattle.std.proofs.Common.{ap, codes, sym, ◌∙◌}
use Rattle.std.proofs.lemmas.Bool.{false≢true}
use Rattle.scc_mesh.specs.Scenes.{is_chip_open}
use Rattle.outcomes.proofs.ReadingLemmas.{lacks_memory}
use Rattle.audit_program.specs.Program.{log_run_plan}
use Rattle.audit_program.proofs.logging.launch.Goals as goal

pub returns-in-Ok : goal.returns-in-Ok
returns-in-Ok c = record { launched = c.run_within.ensures.launched; legal = c.run_within.ensures.legal }

pub returns-in-Err : goal.returns-in-Err
returns-in-Err c = record {
  launched = (λ files. lacks_memory (codes "rcceaudit") (log_run_plan c.args.file.now c.args.scripts.now) files, c.requires.blank);
  legal = λ opened. absurd (false≢true (sym (ap is_chip_open c.requires.blank) ∙ opened));
}
