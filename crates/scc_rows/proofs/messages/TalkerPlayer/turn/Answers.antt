use Rattle.std.proofs.Common.{rules}
use Rattle.scc_rows.proofs.TalkLemmas.{is_sending, is_receiving, is_free, talk_alone, slot_goes_on}
use Rattle.scc_rows.proofs.messages.TalkerPlayer.turn.Goals as goal

pub send_turn-requires-clause-stands : goal.send_turn-requires-clause-stands
send_turn-requires-clause-stands g c = is_sending {s = g.P.Port.sight c.args.port.now} {send = c.args.self.now.sending} {op = c.in-Some.op} c.requires.stands (search rules)

pub returns-in-Some-clause-stands : goal.returns-in-Some-clause-stands
returns-in-Some-clause-stands g c = talk_alone c.send_turn.ensures.talks

pub receive_turn-requires-clause-stands : goal.receive_turn-requires-clause-stands
receive_turn-requires-clause-stands g c = (is_receiving {s = g.P.Port.sight c.args.port.now} {send = c.args.self.now.sending} {get = c.args.self.now.receiving} {op = c.in-Some-receiving.op} c.requires.stands (search rules) (search rules)).0

pub receive_turn-requires-clause-slot_stands : goal.receive_turn-requires-clause-slot_stands
receive_turn-requires-clause-slot_stands g c = (is_receiving {s = g.P.Port.sight c.args.port.now} {send = c.args.self.now.sending} {get = c.args.self.now.receiving} {op = c.in-Some-receiving.op} c.requires.stands (search rules) (search rules)).1

pub returns-in-Some-receiving-clause-stands : goal.returns-in-Some-receiving-clause-stands
returns-in-Some-receiving-clause-stands g c = talk_alone c.receive_turn.ensures.talks

pub turn-requires-clause-stands : goal.turn-requires-clause-stands
turn-requires-clause-stands g c = (is_free {s = g.P.Port.sight c.args.port.now} {send = c.args.self.now.sending} {get = c.args.self.now.receiving} c.requires.stands (search rules) (search rules)).at.slot_stands

pub turn-requires-clause-hands : goal.turn-requires-clause-hands
turn-requires-clause-hands g c = (is_free {s = g.P.Port.sight c.args.port.now} {send = c.args.self.now.sending} {get = c.args.self.now.receiving} c.requires.stands (search rules) (search rules)).at.hands

pub returns-in_default-pop-clause-stands : goal.returns-in_default-pop-clause-stands
returns-in_default-pop-clause-stands g c = rw c.take-sending.ensures.after (rw c.take-receiving.ensures.after (talk_alone (slot_goes_on (is_free {s = g.P.Port.sight c.args.port.now} {send = c.args.self.now.sending} {get = c.args.self.now.receiving} c.requires.stands (search rules) (search rules)) c.turn.ensures.turned c.turn.ensures.stands)))
