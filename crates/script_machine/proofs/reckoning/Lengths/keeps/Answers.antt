use Rattle.std.proofs.Common.{rules}
use Rattle.script_machine.proofs.reckoning.Lengths.keeps.Goals as goal

-- Names the goal, so that the prover rejects a wrong body at once, without a search.
pub returns-in-Own-Print : goal.returns-in-Own-Print
returns-in-Own-Print c = search rules
