use Rattle.send_recv.proofs.Starts.{free_after_receive, free_after_other_head, free_after_test, free_after_send}
use Rattle.send_recv.proofs.laws.ends_law.Goals as goal

pub returns : goal.returns
returns c = record {
  receive = λ s t d e slot op polls old bytes hands st r. free_after_receive hands st r;
  other_head = λ s t d e slot op polls old bytes sent asked hands st r. free_after_other_head hands st r;
  test = λ s t d e slot aim op old bytes free r. free_after_test free r;
  send = λ s t d e op slot after bytes st r. free_after_send st r;
}
