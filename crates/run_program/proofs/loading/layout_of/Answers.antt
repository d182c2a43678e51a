use Rattle.std.proofs.Common.{rules}
use Rattle.run_program.proofs.loading.layout_of.Goals as goal

-- Names the goal, so that the prover rejects a wrong body at once, without a search.
pub returns-then-bits : goal.returns-then-bits
returns-then-bits c = search rules
