use Rattle.rank_monitor.specs.Standing.KeepsStage.{AtIdle}
use Rattle.rank_monitor.proofs.PartLaws.{flags_unset, said_none}
use Rattle.rank_monitor.proofs.works.Work.new.Goals as goal

pub returns-clause-stands : goal.returns-clause-stands
returns-clause-stands c = record { keeps = AtIdle; post = tt; said = said_none; flags = flags_unset }
