use Rattle.std.proofs.Common.{◌≡◌, map, take}
use Rattle.rcce_io.specs.Sending.{with_text}
use Rattle.rcce_audit.specs.Held.{held_calls}
use Rattle.rcce_audit.specs.Texts.{call_lines, table_lines, text_of}
use Rattle.rcce_audit.proofs.held.write_all_lists.Given as goal

abbrev pub invariant-loop-rank : goal.invariant-loop-rank
invariant-loop-rank g l =
    g.S.Sink.seen l.sink ≡ with_text (text_of (table_lines call_lines 0 (take l.rank (map held_calls l.lists)))) (g.S.Sink.seen l.initial.sink)
