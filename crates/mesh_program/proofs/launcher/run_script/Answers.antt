use Rattle.std.proofs.Common.{codes}
use Rattle.mesh_program.proofs.PlanLemmas.{comes_run}
use Rattle.mesh_program.proofs.launcher.run_script.Goals as goal

pub returns-in-Ok : goal.returns-in-Ok
returns-in-Ok c = λ files. comes_run (codes "rccemesh") c.args.at.now c.args.script c.in-Ok.report files c.in-Ok.ensures
