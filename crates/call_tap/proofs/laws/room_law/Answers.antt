use Rattle.call_tap.proofs.PlannedLaws.{planned_room}
use Rattle.call_tap.proofs.laws.room_law.Goals as goal

pub returns : goal.returns
returns c = record { law = planned_room }
