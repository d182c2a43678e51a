use Rattle.std.proofs.Common.{◌∙◌}
use Rattle.trace_script.proofs.launcher.write_refused.Goals as goal

pub returns : goal.returns
returns g c = let rank = c.from.ensures ∙ c.number.ensures.gives in rw rank at c.write_texts.ensures
