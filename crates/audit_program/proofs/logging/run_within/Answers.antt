use Rattle.std.proofs.Common.{ap, codes, sym, ◌∙◌}
use Rattle.std.proofs.lemmas.Bool.{false≢true}
use Rattle.scc_mesh.specs.Scenes.{is_chip_open}
use Rattle.audit_program.proofs.RunPlanLemmas.{comes_refused}
use Rattle.audit_program.proofs.logging.run_within.Goals as goal

pub returns-then-room : goal.returns-then-room
returns-then-room c = record { launched = c.run.ensures.launched c.args.file.now; legal = c.run.ensures.legal }

pub returns-else-room : goal.returns-else-room
returns-else-room c = record {
  launched = (λ files. comes_refused (codes "rcceaudit") c.args.file.now c.args.scripts.now files (sym c.if-room.false ∙ c.requires.room), c.requires.blank);
  legal = λ opened. absurd (false≢true (sym (ap is_chip_open c.requires.blank) ∙ opened));
}
