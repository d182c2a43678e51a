use Rattle.station.proofs.ToldLemmas.{told_bytes}
use Rattle.station.proofs.laws.bcast_law.Goals as goal

pub returns : goal.returns
returns c = record { bytes = λ seat comm root len keys calls slots held legal told r low below. told_bytes seat comm root len keys calls slots held legal told r low below }
