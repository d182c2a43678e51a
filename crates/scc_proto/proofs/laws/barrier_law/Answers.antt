use Rattle.scc_proto.proofs.Barriers.BarrierLaw.{barriers_entered}
use Rattle.scc_proto.proofs.laws.barrier_law.Goals as goal

pub returns : goal.returns
returns c = record { law = λ s memory records comm r k agrees below other same. barriers_entered s comm r k records agrees.calls (agrees.singles.0 r below) (agrees.singles.0 k other) below other same }
