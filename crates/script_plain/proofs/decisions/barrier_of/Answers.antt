use Rattle.std.proofs.Common.{rules}
use Rattle.script_plain.proofs.decisions.barrier_of.Goals as goal

-- Names the goal, so that the prover rejects a wrong body at once, without a search.
pub returns-then-all_at_barrier : goal.returns-then-all_at_barrier
returns-then-all_at_barrier c = search rules
