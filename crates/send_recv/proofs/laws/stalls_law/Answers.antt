use Rattle.send_recv.proofs.Starts.{slot_after}
use Rattle.send_recv.proofs.laws.stalls_law.Goals as goal

pub returns : goal.returns
returns c = record { slot = λ s t d e slot op now polls old bytes spot st r. slot_after r.events r.did r.post st }
