use Rattle.std.proofs.Common.{ℕ, codes, List, Ok, subst, sym}
use Rattle.rcce_io.specs.Reading.{ReadsAll}
use Rattle.lab_reader.specs.Reading.{most_lab_bytes}
use Rattle.lab_program.proofs.PlanLemmas.{read_gave, tells_quiet}
use Rattle.lab_program.specs.Program.{lab_bytes_plan}
use Rattle.lab_program.proofs.launcher.run_file.Goals as goal

pub returns-in-Ok : goal.returns-in-Ok
returns-in-Ok g c =
    let file = c.args.file.now in
    let before = g.F.Files.seen c.args.files.now in
    let after = g.F.Files.seen c.read_file.new.files in
    record {
      comes = c.in-Ok.ensures.reads (codes "rccelab") (lab_bytes_plan file) _ _ (rw c.as_slice.ensures at (c.run_bytes.ensures.comes after));
      tells = c.run_bytes.ensures.tells before after (subst (λ (bytes : List ℕ). ReadsAll file most_lab_bytes before after (Ok bytes)) (sym c.as_slice.ensures) (read_gave file most_lab_bytes before after _ c.in-Ok.ensures.reads));
    }

pub returns-in-Err : goal.returns-in-Err
returns-in-Err g c = record {
  comes = c.in-Err.ensures.reads (codes "rccelab") (lab_bytes_plan c.args.file.now);
  tells = tells_quiet (g.F.Files.seen c.args.files.now) (g.F.Files.seen c.read_file.new.files) (codes "rccelab") c.args.file.now c.args.left.now c.in-Err.complaint c.requires.blank;
}
