use Rattle.std.proofs.Common.{◌≡◌, length, arith}
use Rattle.scc_rows.proofs.TalkLemmas.{written_back}
use Rattle.scc_rows.proofs.CallLemmas.{received_whole, receive_stalled, receive_differs_whole}
use Rattle.scc_rows.proofs.callers.Caller.receive_on.Goals as goal

pub returns-in-Ok-clause-talks : goal.returns-in-Ok-clause-talks
returns-in-Ok-clause-talks g c = rw c.requires.not_sending (rw c.requires.not_receiving (received_whole c.requires.peers c.requires.stands c.requires.slot_stands c.in-Ok.ensures.ends))

pub returns-in-Stalled-clause-talks : goal.returns-in-Stalled-clause-talks
returns-in-Stalled-clause-talks g c =
    let long : length c.recv.new.bytes ≡ c.args.self.now.bytes.len = omega (arith, c.recv.auto.bytes, c.deref_mut.ensures.len) in
    rw c.requires.not_sending (rw (written_back c.args.self.now.bytes.len c.recv.new.bytes _ long)
    (receive_stalled c.requires.peers c.requires.slot_stands (rw c.in-Stalled.is at c.in-Err.ensures.ends).1))

pub returns-in-Mismatch-clause-talks : goal.returns-in-Mismatch-clause-talks
returns-in-Mismatch-clause-talks g c =
    rw c.requires.not_sending (rw c.requires.not_receiving (receive_differs_whole c.requires.peers c.requires.stands c.requires.slot_stands (rw c.in-Mismatch.is at c.in-Err.ensures.ends)))
