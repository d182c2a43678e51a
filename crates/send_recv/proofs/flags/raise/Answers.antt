use Rattle.std.proofs.Common.{rules}
use Rattle.send_recv.proofs.flags.raise.Goals as goal

-- Names the goal, so that the prover rejects a wrong body at once, without a search.
pub change_flag-requires-clause-may : goal.change_flag-requires-clause-may
change_flag-requires-clause-may g c = search rules fits 100
