use Rattle.std.proofs.Common.{ap}
use Rattle.put_get.specs.Cores.{Private}
use Rattle.scc_rows.proofs.MessageLemmas.{fresh_free}
use Rattle.scc_rows.proofs.whole_messages.TwoPostsMeeting.holds.Goals as goal

pub post-requires-clause-free : goal.post-requires-clause-free
post-requires-clause-free g c = fresh_free c.requires.first_fresh (ap (λ (x : Private). x.out) c.new-core.ensures) c.new-slot.ensures.empty
