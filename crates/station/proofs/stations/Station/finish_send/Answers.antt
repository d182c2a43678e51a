use Rattle.std.proofs.Common.{rules}
use Rattle.station.proofs.stations.Station.finish_send.Goals as goal

-- Names the goal, so that the prover rejects a wrong body at once, without a search.
pub returns-clause-free : goal.returns-clause-free
returns-clause-free g c = search rules

pub returns-clause-sent : goal.returns-clause-sent
returns-clause-sent g c = search rules
