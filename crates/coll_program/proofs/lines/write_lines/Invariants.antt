use Rattle.std.proofs.Common.{◌≡◌, ℕ, map, take}
use Rattle.std.specs.List.{range_with_len}
use Rattle.rcce_io.specs.Sending.{joined_texts, with_text}
use Rattle.coll_program.specs.Pieces.{dst_at}
use Rattle.coll_program.specs.Texts.{got_line, shown_of}
use Rattle.coll_program.proofs.lines.write_lines.Given as goal

abbrev pub invariant-loop-number : goal.invariant-loop-number
invariant-loop-number g l =
    g.S.Sink.seen l.sink ≡ with_text (joined_texts (map (λ (rank : ℕ). got_line l.more rank (dst_at l.team rank)) (take l.number (range_with_len 0 (shown_of l.more l.nue))))) (g.S.Sink.seen l.initial.sink)
