use Rattle.std.proofs.Common.{rules}
use Rattle.ping_pong.proofs.players.give.Goals as goal

-- Names the goal, so that the prover rejects a wrong body at once, without a search.
pub returns-clause-stalled : goal.returns-clause-stalled
returns-clause-stalled g c = search rules
