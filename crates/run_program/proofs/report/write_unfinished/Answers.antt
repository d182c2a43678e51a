use Rattle.std.proofs.Common.{◌<◌, length, arith}
use Rattle.rcce_io.proofs.SendingLemmas.{cut_within, sends_err, whole_within}
use Rattle.run_program.proofs.ReportLemmas.{unfinished-more, unfinished-parts}
use Rattle.run_program.proofs.report.write_unfinished.Goals as goal

pub returns-in_err-write_end : goal.returns-in_err-write_end
returns-in_err-write_end g c =
    let within : c.loop-number.number < length (g.T.Endings.ended c.args.run.now) = omega arith in
    sends_err _ _ _ _ c.from_residual.ensures.0 (
    cut_within (g.S.Sink.seen c.args.sink.now) (g.S.Sink.seen c.loop-number.sink) (g.S.Sink.seen c.write_end.new.sink) _ _ _ _
    (unfinished-parts (g.T.Endings.ended c.args.run.now) c.loop-number.number c.of-rank.result c.end.result within c.end.ensures c.of-rank.ensures.gives)
    c.loop-number.invariant c.in_err-write_end.ensures)

pub loop-number-preserved : goal.loop-number-preserved
loop-number-preserved g c =
    let within : c.loop-number.number < length (g.T.Endings.ended c.args.run.now) = omega arith in
    whole_within (g.S.Sink.seen c.args.sink.now) (g.S.Sink.seen c.loop-number.sink) (g.S.Sink.seen c.write_end.new.sink) _ _ _
    (unfinished-more (g.T.Endings.ended c.args.run.now) c.loop-number.number c.of-rank.result c.end.result within c.end.ensures c.of-rank.ensures.gives)
    c.loop-number.invariant c.in_ok-write_end.ensures
