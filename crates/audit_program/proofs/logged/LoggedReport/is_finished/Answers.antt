use Rattle.std.proofs.Common.{subst, sym}
use Rattle.rcce_run.specs.Crews.{EndsAs}
use Rattle.chip_run.specs.declared.ends.RunEnd.{RunEnd}
use Rattle.rcce_run.proofs.FinishedLaws.{finished_all, stuck_one}
use Rattle.audit_program.proofs.logged.LoggedReport.is_finished.Goals as goal

pub returns-in-Finished : goal.returns-in-Finished
returns-in-Finished c = sym (finished_all c.args.self.now.run (subst (λ (e : RunEnd). EndsAs e c.args.self.now.run) c.in-Finished.is c.end.ensures))

pub returns-in-Stuck : goal.returns-in-Stuck
returns-in-Stuck c = sym (stuck_one c.args.self.now.run (subst (λ (e : RunEnd). EndsAs e c.args.self.now.run) c.in-Stuck.is c.end.ensures))
