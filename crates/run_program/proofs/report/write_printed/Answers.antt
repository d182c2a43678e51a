use Rattle.std.proofs.Common.{◌<◌, length, arith}
use Rattle.rcce_io.proofs.SendingLemmas.{cut_within, sends_err, whole_within}
use Rattle.plain_meaning.specs.Ends.{nothing_ended}
use Rattle.run_program.specs.Reports.{printed_text}
use Rattle.run_program.proofs.ReportLemmas.{lines_by_rank-more, lines_by_rank-parts}
use Rattle.run_program.proofs.report.write_printed.Goals as goal

pub returns-in_err-write_items : goal.returns-in_err-write_items
returns-in_err-write_items g c =
    let ues = g.T.Endings.ended c.args.run.now in
    let within : c.loop-number.number < length ues = omega arith in
    sends_err _ _ _ _ c.from_residual.ensures.0 (
    cut_within (g.S.Sink.seen c.args.sink.now) (g.S.Sink.seen c.loop-number.sink) (g.S.Sink.seen c.write_items.new.sink) _ _ _ _
    (lines_by_rank-parts (printed_text c.args.scripts.now.names) ues c.loop-number.number nothing_ended within) c.loop-number.invariant
    (rw c.of.ensures.gives at c.in_err-write_items.ensures))

pub loop-number-preserved : goal.loop-number-preserved
loop-number-preserved g c =
    let ues = g.T.Endings.ended c.args.run.now in
    let within : c.loop-number.number < length ues = omega arith in
    whole_within (g.S.Sink.seen c.args.sink.now) (g.S.Sink.seen c.loop-number.sink) (g.S.Sink.seen c.write_items.new.sink) _ _ _
    (lines_by_rank-more (printed_text c.args.scripts.now.names) ues c.loop-number.number nothing_ended within) c.loop-number.invariant
    (rw c.of.ensures.gives at c.in_ok-write_items.ensures)
