use Rattle.std.proofs.Common.{rules}
use Rattle.send_recv.proofs.sends.after_lines.Goals as goal

-- Names the goal, so that the prover rejects a wrong body at once, without a search.
pub returns-in-BitFlags : goal.returns-in-BitFlags
returns-in-BitFlags c = search rules
