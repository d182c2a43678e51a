use Rattle.rcce_io.proofs.SendingLemmas.{cut_within, joined-around, joined-next, sends_err, whole_within}
use Rattle.rcce_audit.specs.Pieces.{call_text}
use Rattle.rcce_audit.proofs.writing.write_calls.Goals as goal

pub returns-in_err-write_call : goal.returns-in_err-write_call
returns-in_err-write_call g c =
    let parts = joined-around (call_text c.args.rank) c.args.calls.now c.loop-call.call-index c.call-item.result c.loop-call-test.true c.call-item.is in
    sends_err _ _ _ _ c.from_residual.ensures.0 (
    cut_within (g.S.Sink.seen c.args.sink.now) (g.S.Sink.seen c.loop-call.sink) (g.S.Sink.seen c.write_call.new.sink) _ (call_text c.args.rank c.call-item.result) _ _
    parts c.loop-call.invariant c.in_err-write_call.ensures)

pub loop-call-preserved : goal.loop-call-preserved
loop-call-preserved g c =
    let parts = joined-next (call_text c.args.rank) c.args.calls.now c.loop-call.call-index c.call-item.result c.loop-call-test.true c.call-item.is in
    whole_within (g.S.Sink.seen c.args.sink.now) (g.S.Sink.seen c.loop-call.sink) (g.S.Sink.seen c.write_call.new.sink) _ (call_text c.args.rank c.call-item.result) _
    parts c.loop-call.invariant c.in_ok-write_call.ensures
