use Rattle.send_recv.proofs.Starts.{new_receive_left, new_send_left, slot_left_most}
use Rattle.send_recv.proofs.laws.turns_law.Goals as goal

pub returns : goal.returns
returns c = record {
  receive = λ size from head. new_receive_left size from head;
  send = λ layout size to head posted slot. new_send_left layout size to head posted slot;
  slot = λ slot. slot_left_most slot;
}
