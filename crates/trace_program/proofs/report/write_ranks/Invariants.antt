use Rattle.std.proofs.Common.{◌≡◌, take}
use Rattle.rcce_io.specs.Sending.{with_text}
use Rattle.rcce_audit.specs.Texts.{table_lines, text_of}
use Rattle.trace_program.specs.Texts.{count_lines}
use Rattle.trace_program.proofs.report.write_ranks.Given as goal

abbrev pub invariant-loop-rank : goal.invariant-loop-rank
invariant-loop-rank g l =
    g.S.Sink.seen l.sink ≡ with_text (text_of (table_lines (count_lines l.nue) 0 (take l.rank l.counts))) (g.S.Sink.seen l.initial.sink)
