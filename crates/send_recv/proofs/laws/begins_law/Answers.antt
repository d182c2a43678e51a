use Rattle.send_recv.proofs.Starts.{receive_starts, send_starts}
use Rattle.send_recv.proofs.laws.begins_law.Goals as goal

pub returns : goal.returns
returns c = record {
  receive = λ s d slot from head bytes free peers valid long. receive_starts free from head bytes peers valid long;
  send = λ s d slot to head posted bytes free peers valid short long. send_starts free to head posted bytes peers valid short long;
}
