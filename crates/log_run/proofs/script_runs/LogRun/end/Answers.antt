use Rattle.std.proofs.Common.{subst}
use Rattle.script_rules.specs.Script.{Script}
use Rattle.rcce_run.specs.Crews.{EndsAs}
use Rattle.log_run.proofs.script_runs.LogRun.end.Goals as goal

pub returns : goal.returns
returns c = subst (λ (s : Script). EndsAs c.self.inside.end s) c.self.view_is c.self.invariant.1
