use Rattle.std.proofs.Common.{rules}
use Rattle.chip_run.proofs.threads.go.Goals as goal

-- Names the goal, so that the prover rejects a wrong body at once, without a search.
pub returns-clause-slice : goal.returns-clause-slice
returns-clause-slice g c = search rules
