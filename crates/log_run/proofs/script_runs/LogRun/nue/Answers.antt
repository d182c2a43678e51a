use Rattle.std.proofs.Common.{ap, ◌∙◌}
use Rattle.script_rules.specs.Script.{Script}
use Rattle.log_run.proofs.script_runs.LogRun.nue.Goals as goal

pub returns-clause-gives : goal.returns-clause-gives
returns-clause-gives c = c.nue.ensures.same ∙ ap (λ (s : Script). s.nue) c.self.view_is
