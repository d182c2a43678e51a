use Rattle.std.proofs.Common.{rules}
use Rattle.script_plain.proofs.decisions.fetch_of.Goals as goal

-- Names the goal, so that the prover rejects a wrong body at once, without a search.
pub returns-then-eq : goal.returns-then-eq
returns-then-eq c = search rules
