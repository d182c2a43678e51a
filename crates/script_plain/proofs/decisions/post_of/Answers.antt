use Rattle.std.proofs.Common.{rules}
use Rattle.script_plain.proofs.decisions.post_of.Goals as goal

-- Names the goal, so that the prover rejects a wrong body at once, without a search.
pub returns-in-Some-Some : goal.returns-in-Some-Some
returns-in-Some-Some c = search rules
