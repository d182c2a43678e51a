use Rattle.std.proofs.Common.{◌≡◌, map, take}
use Rattle.std.specs.List.{range_with_len}
use Rattle.rcce_io.specs.Sending.{joined_texts, with_text}
use Rattle.trace_writer.specs.Lines.{comm_line_after}
use Rattle.trace_writer.proofs.lines.write_comms.Given as goal

abbrev pub invariant-loop-before : goal.invariant-loop-before
invariant-loop-before g l =
    g.S.Sink.seen l.sink ≡ with_text (joined_texts (map (comm_line_after l.setup) (take l.before (range_with_len 0 15)))) (g.S.Sink.seen l.initial.sink)
