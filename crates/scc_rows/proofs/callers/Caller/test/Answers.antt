use Rattle.std.proofs.Common.{◌≡◌, length, arith}
use Rattle.scc_rows.proofs.TalkLemmas.{written_back}
use Rattle.scc_rows.proofs.CallLemmas.{found_nothing, receive_stalled, test_differs, test_received}
use Rattle.scc_rows.proofs.callers.Caller.test.Goals as goal

pub returns-in-Ok-true-clause-talks : goal.returns-in-Ok-true-clause-talks
returns-in-Ok-true-clause-talks g c = rw c.requires.not_sending (rw c.requires.not_receiving (test_received c.requires.talks (rw c.in-Ok-true.field-0-test at c.in-Ok-true.ensures.ends).1))

pub returns-in-Ok-false-clause-talks : goal.returns-in-Ok-false-clause-talks
returns-in-Ok-false-clause-talks g c = rw c.requires.not_sending (rw c.requires.not_receiving (found_nothing c.requires.talks (rw c.in-Ok-false.field-0-test at c.in-Ok-false.ensures.ends)))

pub returns-in-Stalled-clause-talks : goal.returns-in-Stalled-clause-talks
returns-in-Stalled-clause-talks g c =
    let long : length c.recv_test.new.bytes ≡ c.args.self.now.bytes.len = omega (arith, c.recv_test.auto.bytes, c.deref_mut.ensures.len) in
    rw c.requires.not_sending (rw (written_back c.args.self.now.bytes.len c.recv_test.new.bytes _ long)
    (receive_stalled c.requires.talks.peers c.requires.talks.at.slot_stands (rw c.in-Stalled.is at c.in-Err.ensures.ends).1.1))

pub returns-in-Mismatch-clause-talks : goal.returns-in-Mismatch-clause-talks
returns-in-Mismatch-clause-talks g c = rw c.requires.not_sending (rw c.requires.not_receiving (test_differs c.requires.talks (rw c.in-Mismatch.is at c.in-Err.ensures.ends).1))
