use Rattle.std.proofs.Common.{rules}
use Rattle.send_recv.proofs.sends.SendOp.is_sure.Goals as goal

-- Names the goal, so that the prover rejects a wrong body at once, without a search.
pub returns-in-Look : goal.returns-in-Look
returns-in-Look g c = search rules
