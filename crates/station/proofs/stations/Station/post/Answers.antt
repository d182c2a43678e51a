use Rattle.std.proofs.Common.{rules}
use Rattle.station.proofs.stations.Station.post.Goals as goal

-- Names the goal, so that the prover rejects a wrong body at once, without a search.
pub returns-clause-calls : goal.returns-clause-calls
returns-clause-calls g c = search rules

pub returns-clause-posted : goal.returns-clause-posted
returns-clause-posted g c = search rules

pub returns-clause-owes : goal.returns-clause-owes
returns-clause-owes g c = search rules

pub returns-clause-stalled : goal.returns-clause-stalled
returns-clause-stalled g c = search rules
