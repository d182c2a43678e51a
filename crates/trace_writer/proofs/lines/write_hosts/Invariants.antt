use Rattle.std.proofs.Common.{◌≡◌, map, take}
use Rattle.std.specs.List.{range_with_len}
use Rattle.rcce_io.specs.Sending.{joined_texts, with_text}
use Rattle.trace_writer.specs.Lines.{host_words}
use Rattle.trace_writer.proofs.lines.write_hosts.Given as goal

abbrev pub invariant-loop-number : goal.invariant-loop-number
invariant-loop-number g l =
    g.S.Sink.seen l.sink ≡ with_text (joined_texts (map (host_words l.setup) (take l.number (range_with_len 0 l.setup.nue)))) (g.S.Sink.seen l.initial.sink)
