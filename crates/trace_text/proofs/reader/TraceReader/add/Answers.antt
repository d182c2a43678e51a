use Rattle.std.proofs.Common.{arith}
use Rattle.std.proofs.lemmas.Grind.{common_steps}
use Rattle.trace_text.proofs.reader.TraceReader.add.Goals as goal

-- Names the goal, so that the prover rejects a wrong body at once, without a search.
pub invariant_of-self : goal.invariant_of-self
invariant_of-self c = grind (arith, common_steps)
