use Rattle.std.proofs.Common.{◌++◌, codes, decimal}
use Rattle.rcce_io.proofs.SendingLemmas.{cut_after, cut_then, sends_after, sends_err}
use Rattle.run_program.proofs.items.write_front.Goals as goal

pub returns-in_err-write_all : goal.returns-in_err-write_all
returns-in_err-write_all g c =
    sends_err _ _ _ _ c.from_residual.ensures.0
    (cut_then (g.S.Sink.seen c.args.sink.now) (g.S.Sink.seen c.write_all.new.sink) (codes "ue ") ((decimal c.args.rank ++ codes " ") ++ (c.args.name.now ++ codes " ")) c.in_err-write_all.ensures)

pub returns-in_err-write_word : goal.returns-in_err-write_word
returns-in_err-write_word g c =
    sends_err _ _ _ _ c.from_residual-in_err-write_word.ensures.0
    (cut_after (g.S.Sink.seen c.args.sink.now) (g.S.Sink.seen c.write_all.new.sink) (g.S.Sink.seen c.write_word.new.sink) (codes "ue ") ((decimal c.args.rank ++ codes " ") ++ (c.args.name.now ++ codes " "))
    c.in_ok-write_all.ensures
    (cut_then (g.S.Sink.seen c.write_all.new.sink) (g.S.Sink.seen c.write_word.new.sink) (decimal c.args.rank ++ codes " ") (c.args.name.now ++ codes " ") (rw (c.format.ensures.text, c.number.ensures.gives) at c.in_err-write_word.ensures)))

pub returns : goal.returns
returns g c =
    sends_after (g.S.Sink.seen c.args.sink.now) (g.S.Sink.seen c.write_all.new.sink) (g.S.Sink.seen c.write_word-2.new.sink) (codes "ue ") ((decimal c.args.rank ++ codes " ") ++ (c.args.name.now ++ codes " ")) c.write_word-2.result
    c.in_ok-write_all.ensures
    (sends_after (g.S.Sink.seen c.write_all.new.sink) (g.S.Sink.seen c.write_word.new.sink) (g.S.Sink.seen c.write_word-2.new.sink) (decimal c.args.rank ++ codes " ") (c.args.name.now ++ codes " ") c.write_word-2.result
    (rw (c.format.ensures.text, c.number.ensures.gives) at c.in_ok-write_word.ensures) c.write_word-2.ensures)
