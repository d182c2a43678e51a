use Rattle.station.proofs.PortLemmas.{barrier_there, collective_there, free_there, group_there, receive_there, send_there}
use Rattle.station.proofs.laws.other_port_law.Goals as goal

pub returns : goal.returns
returns c = record {
  free = λ s mark rest hold a free. free_there s mark rest hold a free;
  send = λ s mark rest hold a op bytes there. send_there s mark rest hold a op bytes there;
  receive = λ s mark rest hold a op bytes there. receive_there s mark rest hold a op bytes there;
  barrier = λ s mark rest hold a op there. barrier_there s mark rest hold a op there;
  group = λ s mark rest hold start a op input held there. group_there s mark rest hold start a op input held there;
  collective = λ s mark rest hold base a op src dst there. collective_there s mark rest hold base a op src dst there;
}
