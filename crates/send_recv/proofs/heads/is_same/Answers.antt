use Rattle.std.proofs.Common.{rules}
use Rattle.send_recv.proofs.heads.is_same.Goals as goal

-- Names the goal, so that the prover rejects a wrong body at once, without a search.
pub returns-then-comm : goal.returns-then-comm
returns-then-comm c = search rules
