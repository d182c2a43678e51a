use Rattle.std.proofs.Common.{◌≡◌, map, take}
use Rattle.rcce_io.specs.Sending.{joined_texts, with_text}
use Rattle.rcce_audit.specs.Pieces.{call_text}
use Rattle.rcce_audit.proofs.writing.write_calls.Given as goal

abbrev pub invariant-loop-call : goal.invariant-loop-call
invariant-loop-call g l =
    g.S.Sink.seen l.sink ≡ with_text (joined_texts (map (call_text l.rank) (take l.call-index l.calls))) (g.S.Sink.seen l.initial.sink)
