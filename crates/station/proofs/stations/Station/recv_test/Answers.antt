use Rattle.std.proofs.Common.{arith, rules}
use Rattle.std.proofs.lemmas.Grind.{common_steps}
use Rattle.station.proofs.stations.Station.recv_test.Goals as goal

-- Names the goal, so that the prover rejects a wrong body at once, without a search.
pub returns-clause-calls : goal.returns-clause-calls
returns-clause-calls g c = search rules

pub returns-clause-tells : goal.returns-clause-tells
returns-clause-tells g c = search rules

pub returns-clause-stops : goal.returns-clause-stops
returns-clause-stops g c = grind (arith, common_steps)
