use Rattle.barrier.proofs.OtherPort.{barrier_there, free_there}
use Rattle.barrier.proofs.laws.other_port_law.Goals as goal

pub returns : goal.returns
returns c = record {
  barrier = λ s mark rest hold core op values st. barrier_there s mark rest hold core op values st;
  between = λ s mark rest hold core values st. free_there s mark rest hold core values st;
}
