use Rattle.std.proofs.Common.{arith}
use Rattle.std.proofs.lemmas.Grind.{common_steps}
use Rattle.trace_program.proofs.hearing.Hearing.read_block.Goals as goal

-- Names the goal, so that the prover rejects a wrong body at once, without a search.
pub returns-in_ok-push_all-in-Bytes-clause-reads : goal.returns-in_ok-push_all-in-Bytes-clause-reads
returns-in_ok-push_all-in-Bytes-clause-reads g c = grind (arith, common_steps)
