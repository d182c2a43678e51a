use Rattle.std.proofs.Common.{refl}
use Rattle.run_program.proofs.loading.with_setup.Goals as goal

-- Names the goal, so that the prover rejects a wrong body at once, without a search.
pub returns-clause-job : goal.returns-clause-job
returns-clause-job c = refl
