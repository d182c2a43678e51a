use Rattle.std.proofs.Common.{◌∙◌, ap, sym}
use Rattle.script_rules.specs.Effects.{effect_of}
use Rattle.script_rules.proofs.effect.effect_of.Goals as goal

-- Names the goal, so that the prover rejects a wrong body at once, without a search.
pub returns-in-End : goal.returns-in-End
returns-in-End c = c.of_nesting-in-End.ensures ∙ sym (ap effect_of c.in-End.is)
