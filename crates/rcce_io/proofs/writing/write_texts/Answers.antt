use Rattle.rcce_io.proofs.SendingLemmas.{cut_within, joined-around, joined-next, sends_err, whole_within}
use Rattle.rcce_io.proofs.writing.write_texts.Goals as goal

pub returns-in_err-write_to : goal.returns-in_err-write_to
returns-in_err-write_to g c =
    let parts = joined-around g.T.TextSource.text c.args.texts.now c.loop-text.text-index c.text-item.result c.loop-text-test.true c.text-item.is in
    sends_err _ _ _ _ c.from_residual.ensures.0 (
    cut_within (g.S.Sink.seen c.args.sink.now) (g.S.Sink.seen c.loop-text.sink) (g.S.Sink.seen c.write_to.new.sink) _ (g.T.TextSource.text c.text-item.result) _ _
    parts c.loop-text.invariant c.in_err-write_to.ensures)

pub loop-text-preserved : goal.loop-text-preserved
loop-text-preserved g c =
    let parts = joined-next g.T.TextSource.text c.args.texts.now c.loop-text.text-index c.text-item.result c.loop-text-test.true c.text-item.is in
    whole_within (g.S.Sink.seen c.args.sink.now) (g.S.Sink.seen c.loop-text.sink) (g.S.Sink.seen c.write_to.new.sink) _ (g.T.TextSource.text c.text-item.result) _
    parts c.loop-text.invariant c.in_ok-write_to.ensures
