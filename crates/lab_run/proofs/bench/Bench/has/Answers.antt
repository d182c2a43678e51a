use Rattle.std.proofs.Common.{rules}
use Rattle.lab_run.proofs.bench.Bench.has.Goals as goal

-- Names the goal, so that the prover rejects a wrong body at once, without a search.
pub returns-in-Some : goal.returns-in-Some
returns-in-Some c = search rules
