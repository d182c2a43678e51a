use Rattle.std.proofs.Common.{List, ℕ, decimal, subst}
use Rattle.rcce_io.specs.Sending.{Sends}
use Rattle.scc_base.specs.Heads.{kind_at, kind_text}
use Rattle.rcce_io.specs.Digits.{hex_text}
use Rattle.rcce_audit.proofs.TextLemmas.{message_pieces}
use Rattle.rcce_audit.proofs.writing.write_message.Goals as goal

pub returns : goal.returns
returns g c =
    let head = c.args.head in
    let sent = rw (c.number.ensures.gives, c.kind_text.ensures, c.comm.ensures.gives, c.len.ensures.gives) at c.write_texts.ensures in
    subst (λ (t : List ℕ). Sends t (g.S.Sink.seen c.args.sink.now) (g.S.Sink.seen c.write_texts.new.sink) c.write_texts.result)
    (message_pieces (decimal c.args.rank) c.args.verb.now (decimal c.args.peer) (kind_text (kind_at head.kind)) (decimal head.comm) (decimal head.len) (hex_text c.args.bytes.now)) sent
