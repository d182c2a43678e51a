use Rattle.std.proofs.Common.{rules}
use Rattle.script_rules.proofs.checks.is_unknown.Goals as goal

-- Names the goal, so that the prover rejects a wrong body at once, without a search.
pub returns-in-Of : goal.returns-in-Of
returns-in-Of c = search rules
