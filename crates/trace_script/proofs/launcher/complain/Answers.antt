use Rattle.std.proofs.Common.{rules}
use Rattle.trace_script.proofs.launcher.complain.Goals as goal

-- Names the goal, so that the prover rejects a wrong body at once, without a search.
pub returns : goal.returns
returns g c = search rules
