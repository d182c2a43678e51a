use Rattle.std.proofs.Common.{ap}
use Rattle.put_get.specs.Cores.{Private}
use Rattle.scc_rows.proofs.MessageLemmas.{fresh_free}
use Rattle.scc_rows.proofs.whole_messages.TestOfNothingMeeting.holds.Goals as goal

pub receive_if_sent-answer-requires-clause-free : goal.receive_if_sent-answer-requires-clause-free
receive_if_sent-answer-requires-clause-free g c = fresh_free c.requires.second_fresh (ap (λ (x : Private). x.out) c.new-core.ensures) c.new-slot.ensures.empty
