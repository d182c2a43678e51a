use Rattle.std.proofs.Common.{rules}
use Rattle.script_machine.proofs.machines.Machine.prim.Goals as goal

-- Names the goal, so that the prover rejects a wrong body at once, without a search.
pub returns-in-Mismatched-clause-same : goal.returns-in-Mismatched-clause-same
returns-in-Mismatched-clause-same c = search rules
