use Rattle.std.proofs.Common.{rules}
use Rattle.send_recv.proofs.sends.SendOp.raise_sent.Goals as goal

-- Names the goal, so that the prover rejects a wrong body at once, without a search.
pub returns-clause-next : goal.returns-clause-next
returns-clause-next c = search rules fits 100
