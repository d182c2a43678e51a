use Rattle.std.proofs.Common.{codes}
use Rattle.rcce_io.proofs.SendingLemmas.{cut_then, sends_after, sends_err}
use Rattle.run_program.proofs.items.write_word.Goals as goal

pub returns-in_err-write_all : goal.returns-in_err-write_all
returns-in_err-write_all g c =
    sends_err _ _ _ _ c.from_residual.ensures.0
    (cut_then (g.S.Sink.seen c.args.sink.now) (g.S.Sink.seen c.write_all.new.sink) c.args.text.now (codes " ") (rw c.as_bytes.ensures.value at c.in_err-write_all.ensures))

pub returns : goal.returns
returns g c =
    sends_after (g.S.Sink.seen c.args.sink.now) (g.S.Sink.seen c.write_all.new.sink) (g.S.Sink.seen c.write_all-2.new.sink) c.args.text.now (codes " ") c.write_all-2.result
    (rw c.as_bytes.ensures.value at c.in_ok-write_all.ensures) c.write_all-2.ensures
