use Rattle.std.proofs.Common.{rules}
use Rattle.scc_rows.proofs.TalkLemmas.{is_sending, is_receiving, is_free, talk_alone}
use Rattle.scc_rows.proofs.CallLemmas.{other_bytes}
use Rattle.scc_rows.proofs.callers.CallerPlayer.turn.Goals as goal

pub send_on-requires-clause-stands : goal.send_on-requires-clause-stands
send_on-requires-clause-stands g c = is_sending {s = g.P.Port.sight c.args.port.now} {send = c.args.self.now.sending} {op = c.in-Some.op} c.requires.stands (search rules)

pub returns-in-Some-clause-stands : goal.returns-in-Some-clause-stands
returns-in-Some-clause-stands g c = talk_alone c.send_on.ensures.talks

pub receive_on-requires-clause-stands : goal.receive_on-requires-clause-stands
receive_on-requires-clause-stands g c = (is_receiving {s = g.P.Port.sight c.args.port.now} {send = c.args.self.now.sending} {get = c.args.self.now.receiving} {op = c.in-Some-receiving.op} c.requires.stands (search rules) (search rules)).0

pub receive_on-requires-clause-slot_stands : goal.receive_on-requires-clause-slot_stands
receive_on-requires-clause-slot_stands g c = (is_receiving {s = g.P.Port.sight c.args.port.now} {send = c.args.self.now.sending} {get = c.args.self.now.receiving} {op = c.in-Some-receiving.op} c.requires.stands (search rules) (search rules)).1

pub returns-in-Some-receiving-clause-stands : goal.returns-in-Some-receiving-clause-stands
returns-in-Some-receiving-clause-stands g c = talk_alone c.receive_on.ensures.talks

pub returns-in_default-pop-clause-stands : goal.returns-in_default-pop-clause-stands
returns-in_default-pop-clause-stands g c = rw c.take-sending.ensures.after (rw c.take-receiving.ensures.after (talk_alone (is_free {s = g.P.Port.sight c.args.port.now} {send = c.args.self.now.sending} {get = c.args.self.now.receiving} c.requires.stands (search rules) (search rules))))

pub send-requires-clause-talks : goal.send-requires-clause-talks
send-requires-clause-talks g c = other_bytes (is_free {s = g.P.Port.sight c.args.port.now} {send = c.args.self.now.sending} {get = c.args.self.now.receiving} c.requires.stands (search rules) (search rules))

pub returns-in-Send-clause-stands : goal.returns-in-Send-clause-stands
returns-in-Send-clause-stands g c = talk_alone c.send.ensures.talks

pub post-requires-clause-talks : goal.post-requires-clause-talks
post-requires-clause-talks g c = other_bytes (is_free {s = g.P.Port.sight c.args.port.now} {send = c.args.self.now.sending} {get = c.args.self.now.receiving} c.requires.stands (search rules) (search rules))

pub returns-in-Post-clause-stands : goal.returns-in-Post-clause-stands
returns-in-Post-clause-stands g c = talk_alone c.post.ensures.talks

pub receive-requires-clause-talks : goal.receive-requires-clause-talks
receive-requires-clause-talks g c = other_bytes (is_free {s = g.P.Port.sight c.args.port.now} {send = c.args.self.now.sending} {get = c.args.self.now.receiving} c.requires.stands (search rules) (search rules))

pub returns-in-Receive-clause-stands : goal.returns-in-Receive-clause-stands
returns-in-Receive-clause-stands g c = talk_alone c.receive.ensures.talks

pub test-requires-clause-talks : goal.test-requires-clause-talks
test-requires-clause-talks g c = other_bytes (is_free {s = g.P.Port.sight c.args.port.now} {send = c.args.self.now.sending} {get = c.args.self.now.receiving} c.requires.stands (search rules) (search rules))

pub returns-in-Test-clause-stands : goal.returns-in-Test-clause-stands
returns-in-Test-clause-stands g c = talk_alone c.test.ensures.talks
