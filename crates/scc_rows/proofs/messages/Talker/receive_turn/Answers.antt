use Rattle.std.proofs.Common.{◌≡◌, length, arith}
use Rattle.scc_rows.proofs.TalkLemmas.{receive_differs, receive_goes_on, receive_is_over, written_back}
use Rattle.scc_rows.proofs.messages.Talker.receive_turn.Goals as goal

pub returns-in-Done-clause-talks : goal.returns-in-Done-clause-talks
returns-in-Done-clause-talks g c =
    let long : length c.turn.new.bytes ≡ c.args.self.now.bytes.len = omega (arith, c.turn.auto.bytes, c.deref_mut.ensures.len) in
    rw c.requires.not_sending (rw c.requires.not_receiving (rw (written_back c.args.self.now.bytes.len c.turn.new.bytes _ long)
    (receive_is_over c.requires.peers c.requires.slot_stands c.in-Done.ensures.turned c.in-Done.ensures.stands)))

pub returns-in-Mismatch-clause-talks : goal.returns-in-Mismatch-clause-talks
returns-in-Mismatch-clause-talks g c =
    let long : length c.turn.new.bytes ≡ c.args.self.now.bytes.len = omega (arith, c.turn.auto.bytes, c.deref_mut.ensures.len) in
    rw c.requires.not_sending (rw c.requires.not_receiving (rw (written_back c.args.self.now.bytes.len c.turn.new.bytes _ long)
    (receive_differs c.requires.peers c.requires.slot_stands c.in-Mismatch.ensures.turned c.in-Mismatch.ensures.stands)))

pub returns-in-Moved-clause-talks : goal.returns-in-Moved-clause-talks
returns-in-Moved-clause-talks g c =
    let long : length c.turn.new.bytes ≡ c.args.self.now.bytes.len = omega (arith, c.turn.auto.bytes, c.deref_mut.ensures.len) in
    rw c.requires.not_sending (rw (written_back c.args.self.now.bytes.len c.turn.new.bytes _ long)
    (receive_goes_on c.requires.peers c.requires.slot_stands c.in-Moved.ensures.turned c.in-Moved.ensures.stands))

pub returns-in-Waiting-clause-talks : goal.returns-in-Waiting-clause-talks
returns-in-Waiting-clause-talks g c =
    let long : length c.turn.new.bytes ≡ c.args.self.now.bytes.len = omega (arith, c.turn.auto.bytes, c.deref_mut.ensures.len) in
    rw c.requires.not_sending (rw (written_back c.args.self.now.bytes.len c.turn.new.bytes _ long)
    (receive_goes_on c.requires.peers c.requires.slot_stands c.in-Waiting.ensures.turned c.in-Waiting.ensures.stands))
