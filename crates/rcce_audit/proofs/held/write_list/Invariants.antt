use Rattle.std.proofs.Common.{◌≡◌, ◌≤◌, drop, length, map, take}
use Rattle.rcce_io.specs.Sending.{joined_texts, with_text}
use Rattle.rcce_audit.specs.Held.{calls_with_bytes}
use Rattle.rcce_audit.specs.Pieces.{line_by}
use Rattle.rcce_audit.proofs.HeldLemmas.{left_after}
use Rattle.rcce_audit.proofs.held.write_list.Given as goal

abbrev pub invariant-loop-call : goal.invariant-loop-call
invariant-loop-call g l = record {
  within : l.at ≤ length l.bytes;
  place : drop l.at l.bytes ≡ left_after (take l.call-index l.calls) l.bytes;
  so_far : g.S.Sink.seen l.sink ≡ with_text (joined_texts (map (line_by l.rank) (calls_with_bytes (take l.call-index l.calls) l.bytes))) (g.S.Sink.seen l.initial.sink);
}
