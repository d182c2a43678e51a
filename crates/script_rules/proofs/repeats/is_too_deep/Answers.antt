use Rattle.std.proofs.Common.{rules}
use Rattle.script_rules.proofs.repeats.is_too_deep.Goals as goal

-- Names the goal, so that the prover rejects a wrong body at once, without a search.
pub returns-in-Opens : goal.returns-in-Opens
returns-in-Opens c = search rules
