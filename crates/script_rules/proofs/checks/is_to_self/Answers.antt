use Rattle.std.proofs.Common.{rules}
use Rattle.script_rules.proofs.checks.is_to_self.Goals as goal

-- Names the goal, so that the prover rejects a wrong body at once, without a search.
pub returns-in-Some : goal.returns-in-Some
returns-in-Some c = search rules
