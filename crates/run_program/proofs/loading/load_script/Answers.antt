use Rattle.run_program.specs.Program.{rccerun, run_plan}
use Rattle.run_program.proofs.LoadLemmas.{loads_script}
use Rattle.run_program.proofs.loading.load_script.Goals as goal

pub returns-in-Ok : goal.returns-in-Ok
returns-in-Ok g c =
    loads_script c.args.script.now c.args.job c.args.hosts (g.F.Files.seen c.args.files.now) (g.F.Files.seen c.read_script_file.new.files) _ c.with_setup.result c.in-Ok.ensures.reads
    c.with_setup.ensures.job c.with_setup.ensures.script c.with_setup.ensures.setup c.with_setup.ensures.seed

pub returns-in-Err : goal.returns-in-Err
returns-in-Err g c = c.in-Err.ensures.reads rccerun.name run_plan
