use Rattle.std.proofs.Common.{rules}
use Rattle.send_recv.proofs.flags.look_for.Goals as goal

-- Names the goal, so that the prover rejects a wrong body at once, without a search.
pub returns-then-look_flag-clause-looks : goal.returns-then-look_flag-clause-looks
returns-then-look_flag-clause-looks g c = search rules fits 100

pub returns-else-look_flag-clause-looks : goal.returns-else-look_flag-clause-looks
returns-else-look_flag-clause-looks g c = search rules fits 100
