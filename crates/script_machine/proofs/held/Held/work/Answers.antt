use Rattle.std.proofs.Common.{rules}
use Rattle.script_machine.proofs.held.Held.work.Goals as goal

-- Names the goal, so that the prover rejects a wrong body at once, without a search.
pub returns-in-Accept : goal.returns-in-Accept
returns-in-Accept c = search rules
