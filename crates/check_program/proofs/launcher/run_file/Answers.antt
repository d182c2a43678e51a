use Rattle.std.proofs.Common.{codes}
use Rattle.check_program.specs.Program.{check_run_plan}
use Rattle.check_program.proofs.launcher.run_file.Goals as goal

pub returns-in-Ok : goal.returns-in-Ok
returns-in-Ok g c =
    let read = g.F.Files.seen c.read_script_file.new.files in
    c.in-Ok.ensures.reads.goes (codes "rccecheck") check_run_plan read _ (c.run_script.ensures read)

pub returns-in-Err : goal.returns-in-Err
returns-in-Err g c = c.in-Err.ensures.reads (codes "rccecheck") check_run_plan
