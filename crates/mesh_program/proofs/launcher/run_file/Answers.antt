use Rattle.std.proofs.Common.{codes}
use Rattle.mesh_program.specs.Program.{mesh_run_plan}
use Rattle.mesh_program.proofs.launcher.run_file.Goals as goal

pub returns-in-Ok : goal.returns-in-Ok
returns-in-Ok g c =
    let read = g.F.Files.seen c.read_script_file.new.files in
    c.in-Ok.ensures.reads.goes (codes "rccemesh") (mesh_run_plan c.args.job.now.at) read _ (c.run_script.ensures read)

pub returns-in-Err : goal.returns-in-Err
returns-in-Err g c = c.in-Err.ensures.reads (codes "rccemesh") (mesh_run_plan c.args.job.now.at)
