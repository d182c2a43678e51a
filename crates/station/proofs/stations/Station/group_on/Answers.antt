use Rattle.station.proofs.ArmLemmas.{ok_later}
use Rattle.station.proofs.stations.Station.group_on.Goals as goal

pub returns-clause-free : goal.returns-clause-free
returns-clause-free g c = ok_later c.run_steps.result c.run_steps.ensures.ended (λ d ended. (ended c.requires.open.0 c.requires.open.1).free)
