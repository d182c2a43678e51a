use Rattle.std.proofs.Common.{◌≡◌, take}
use Rattle.rcce_io.specs.Sending.{with_text}
use Rattle.run_program.specs.Reports.{lines_by_rank, printed_text}
use Rattle.run_program.proofs.report.write_printed.Given as goal

abbrev pub invariant-loop-number : goal.invariant-loop-number
invariant-loop-number g l =
    g.S.Sink.seen l.sink ≡ with_text (lines_by_rank (printed_text l.scripts.names) 0 (take l.number (g.T.Endings.ended l.run))) (g.S.Sink.seen l.initial.sink)
