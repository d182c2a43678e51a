use Rattle.scc_proto.proofs.PortLaws.{seat_kept}
use Rattle.barrier.proofs.RestLemmas.{free_after_barrier}
use Rattle.barrier.proofs.laws.ends_law.Goals as goal

pub returns : goal.returns
returns c = record {
  between = λ s t core d op before values f. free_after_barrier f;
  seat = λ s t core d op before values f. seat_kept s f.events t f.did;
}
