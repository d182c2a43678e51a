use Rattle.std.proofs.Common.{◌≡◌, take}
use Rattle.rcce_io.specs.Sending.{with_text}
use Rattle.rcce_audit.specs.Texts.{rule_lines, table_lines, text_of}
use Rattle.rcce_audit.proofs.writing.write_rules.Given as goal

abbrev pub invariant-loop-comm : goal.invariant-loop-comm
invariant-loop-comm g l =
    g.S.Sink.seen l.sink ≡ with_text (text_of (table_lines rule_lines 0 (take l.comm l.comms))) (g.S.Sink.seen l.initial.sink)
