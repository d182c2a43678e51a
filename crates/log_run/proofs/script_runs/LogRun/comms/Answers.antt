use Rattle.std.proofs.Common.{ap, ◌∙◌}
use Rattle.script_rules.specs.Script.{Script, rules_of}
use Rattle.log_run.proofs.script_runs.LogRun.comms.Goals as goal

pub returns : goal.returns
returns c = c.comm_rules.ensures.gives ∙ ap (λ (s : Script). rules_of s.items) c.self.view_is
