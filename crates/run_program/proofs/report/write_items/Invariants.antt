use Rattle.std.proofs.Common.{map, take}
use Rattle.rcce_io.specs.Sending.{RestWaits, joined_texts}
use Rattle.plain_meaning.specs.Ends.{ended_at}
use Rattle.run_program.specs.Reports.{printed_line}
use Rattle.run_program.proofs.report.write_items.Given as goal

abbrev pub invariant-loop-i : goal.invariant-loop-i
invariant-loop-i g l =
    RestWaits (joined_texts (map (printed_line l.scripts.names l.rank) (take l.i (ended_at (g.T.Endings.ended l.run) l.rank).printed))) l.buffer
    (g.S.Sink.seen l.initial.sink) (g.S.Sink.seen l.sink)
