use Rattle.send_recv.proofs.OtherPort.{slot_there, receive_there, send_there, free_there}
use Rattle.send_recv.proofs.laws.other_port_law.Goals as goal

pub returns : goal.returns
returns c = record {
  receive = λ s mark rest hold core op bytes st. receive_there s mark rest hold core op bytes st;
  send = λ s mark rest hold core op slot bytes st. send_there s mark rest hold core op slot bytes st;
  slot = λ s mark rest hold slot st. slot_there s mark rest hold slot st;
  no_call = λ s mark rest hold core slot st. free_there s mark rest hold core slot st;
}
