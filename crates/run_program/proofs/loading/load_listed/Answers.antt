use Rattle.std.proofs.Common.{sym}
use Rattle.run_program.specs.Program.{file_plan, rccerun}
use Rattle.run_program.proofs.LoadLemmas.{comes_unlisted, loads_listed}
use Rattle.run_program.proofs.loading.load_listed.Goals as goal

pub returns-in-Ok : goal.returns-in-Ok
returns-in-Ok g c = λ holds.
    loads_listed c.args.list.now c.args.script.now _ c.args.job c.in-Ok.hosts c.args.bytes.now _ _ _ (sym c.in-Ok.ensures.gives) c.requires.within holds c.load_script.ensures

pub returns-in-Err : goal.returns-in-Err
returns-in-Err g c = λ holds.
    comes_unlisted c.args.list.now (file_plan c.args.script.now c.args.job.nue) c.args.bytes.now c.args.job.nue c.in-Err.fault _ _ (sym c.in-Err.ensures.gives) (c.refused_hosts.ensures rccerun.name)
