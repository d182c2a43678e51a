use Rattle.std.proofs.Common.{map, take}
use Rattle.rcce_io.specs.Sending.{RestWaits, joined_texts}
use Rattle.check_program.specs.Texts.{match_line}
use Rattle.check_program.proofs.report.write_matches.Given as goal

abbrev pub invariant-loop-i : goal.invariant-loop-i
invariant-loop-i g l =
    RestWaits (joined_texts (map match_line (take l.i l.matches))) l.buffer (g.S.Sink.seen l.initial.sink) (g.S.Sink.seen l.sink)
