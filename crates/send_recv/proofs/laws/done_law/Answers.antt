use Rattle.send_recv.proofs.Starts.{free_after_received, free_after_mismatch, free_after_sent, free_after_slot}
use Rattle.send_recv.proofs.laws.done_law.Goals as goal

pub returns : goal.returns
returns c = record {
  receive = λ s t core d op now slot bytes after at turned st. free_after_received at turned st;
  other_head = λ s t core d op now slot bytes after sent at turned st. free_after_mismatch at turned st;
  send = λ s t core d op now slot after bytes turned st. free_after_sent turned st;
  slot = λ s t core d slot now answer free turned st. free_after_slot free turned st;
}
