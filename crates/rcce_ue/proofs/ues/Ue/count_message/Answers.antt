use Rattle.std.proofs.Common.{rules}
use Rattle.rcce_ue.proofs.ues.Ue.count_message.Goals as goal

-- Names the goal, so that the prover rejects a wrong body at once, without a search.
pub returns-in-Sending : goal.returns-in-Sending
returns-in-Sending g c = search rules
