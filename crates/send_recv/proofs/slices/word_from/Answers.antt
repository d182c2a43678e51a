use Rattle.std.proofs.Common.{arith}
use Rattle.std.proofs.lemmas.Grind.{common_steps}
use Rattle.send_recv.proofs.slices.word_from.Goals as goal

-- Names the goal, so that the prover rejects a wrong body at once, without a search.
pub returns-then-at-bytes-2 : goal.returns-then-at-bytes-2
returns-then-at-bytes-2 c = grind (arith, common_steps)
