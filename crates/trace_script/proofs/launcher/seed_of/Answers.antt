use Rattle.std.proofs.Common.{rules}
use Rattle.trace_script.proofs.launcher.seed_of.Goals as goal

-- Names the goal, so that the prover rejects a wrong body at once, without a search.
pub returns-in-None : goal.returns-in-None
returns-in-None c = search rules
