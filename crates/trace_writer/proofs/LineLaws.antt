-- The line of an event, and the first lines of a trace, as their pieces are sent one behind the other.
use Rattle.std.proofs.Common.{◌≡◌, ℕ, List, [], ◌∷◌, ◌++◌, map, Result}
use Rattle.std.specs.Prelude.{codes, decimal}
use Rattle.std.specs.Int.{w64, to_be_bytes}
use Rattle.std.specs.List.{range_with_len}
use Rattle.rcce_io.specs.Digits.{hex_text}
use Rattle.rcce_io.specs.Sending.{CutShort, Sends, SinkView, joined_texts, with_text}
use Rattle.rcce_io.specs.declared.writing.WriteFault.{WriteFault}
use Rattle.rcce_io.proofs.SendingLemmas.{cut_after, cut_then, sends_after}
use Rattle.scc_base.specs.Setups.{SetupView}
use Rattle.scc_proto.specs.Words.{RankEvent}
use Rattle.trace_writer.specs.Lines.{access_name, comm_line_after, comment_words, event_line, first_lines, host_words, layout_name, place_words}

-- ---- the line of an event

abbrev pub line_head : RankEvent → List ℕ
line_head e = joined_texts (decimal e.rank ∷ codes " " ∷ access_name e.event.access ∷ codes " " ∷ decimal e.event.place.core ∷ [])

abbrev pub line_place : RankEvent → List ℕ
line_place e = joined_texts (place_words e.event.access e.event.place)

abbrev pub line_value : RankEvent → List ℕ
line_value e = hex_text (to_be_bytes w64 e.event.value)

abbrev pub line_comment : SetupView → RankEvent → List ℕ
line_comment s e = joined_texts (comment_words s e.event.access e.event.place)

-- what follows behind the mark `#`, behind the value, behind the blank before it, behind the place, and behind the head
abbrev pub after_mark : SetupView → RankEvent → List ℕ
after_mark s e = line_comment s e ++ codes "\n"

abbrev pub after_value : SetupView → RankEvent → List ℕ
after_value s e = codes " # " ++ after_mark s e

abbrev pub after_blank : SetupView → RankEvent → List ℕ
after_blank s e = line_value e ++ after_value s e

abbrev pub after_place : SetupView → RankEvent → List ℕ
after_place s e = codes " " ++ after_blank s e

abbrev pub after_head : SetupView → RankEvent → List ℕ
after_head s e = line_place e ++ after_place s e

module _ (s : SetupView) (e : RankEvent) (v0 v1 : SinkView) where
  pub head_cut : CutShort (line_head e) v0 v1 → CutShort (event_line s e) v0 v1
  head_cut cut = cut_then v0 v1 (line_head e) (after_head s e) cut

module _ (s : SetupView) (e : RankEvent) (v0 v1 v2 : SinkView) (head : v1 ≡ with_text (line_head e) v0) where
  -- what is so behind the head
  afterwards : (v : SinkView) → CutShort (after_head s e) v1 v → CutShort (event_line s e) v0 v
  afterwards v cut = cut_after v0 v1 v (line_head e) (after_head s e) head cut

  pub place_cut : CutShort (line_place e) v1 v2 → CutShort (event_line s e) v0 v2
  place_cut cut = afterwards v2 (cut_then v1 v2 (line_place e) (after_place s e) cut)

module _ (s : SetupView) (e : RankEvent) (v0 v1 v2 v3 : SinkView) (head : v1 ≡ with_text (line_head e) v0) (place : v2 ≡ with_text (line_place e) v1) where
  after_both : (v : SinkView) → CutShort (after_place s e) v2 v → CutShort (event_line s e) v0 v
  after_both v cut = afterwards s e v0 v1 v2 head v (cut_after v1 v2 v (line_place e) (after_place s e) place cut)

  pub blank_cut : CutShort (codes " ") v2 v3 → CutShort (event_line s e) v0 v3
  blank_cut cut = after_both v3 (cut_then v2 v3 (codes " ") (after_blank s e) cut)

module _ (s : SetupView) (e : RankEvent) (v0 v1 v2 v3 v4 : SinkView) (head : v1 ≡ with_text (line_head e) v0) (place : v2 ≡ with_text (line_place e) v1)
    (blank : v3 ≡ with_text (codes " ") v2) where
  after_three : (v : SinkView) → CutShort (after_blank s e) v3 v → CutShort (event_line s e) v0 v
  after_three v cut = after_both s e v0 v1 v2 v3 head place v (cut_after v2 v3 v (codes " ") (after_blank s e) blank cut)

  pub value_cut : CutShort (line_value e) v3 v4 → CutShort (event_line s e) v0 v4
  value_cut cut = after_three v4 (cut_then v3 v4 (line_value e) (after_value s e) cut)

module _ (s : SetupView) (e : RankEvent) (v0 v1 v2 v3 v4 v5 v6 v7 : SinkView) (head : v1 ≡ with_text (line_head e) v0) (place : v2 ≡ with_text (line_place e) v1)
    (blank : v3 ≡ with_text (codes " ") v2) (value : v4 ≡ with_text (line_value e) v3) where
  after_four : (v : SinkView) → CutShort (after_value s e) v4 v → CutShort (event_line s e) v0 v
  after_four v cut = after_three s e v0 v1 v2 v3 v4 head place blank v (cut_after v3 v4 v (line_value e) (after_value s e) value cut)

  pub mark_cut : CutShort (codes " # ") v4 v5 → CutShort (event_line s e) v0 v5
  mark_cut cut = after_four v5 (cut_then v4 v5 (codes " # ") (after_mark s e) cut)

  pub comment_cut : v5 ≡ with_text (codes " # ") v4 → CutShort (line_comment s e) v5 v6 → CutShort (event_line s e) v0 v6
  comment_cut mark cut = after_four v6 (cut_after v4 v5 v6 (codes " # ") (after_mark s e) mark (cut_then v5 v6 (line_comment s e) (codes "\n") cut))

  -- all pieces, and the last one is sent
  pub line_sent : (r : Result (Unit {0}) WriteFault) → v5 ≡ with_text (codes " # ") v4 → v6 ≡ with_text (line_comment s e) v5 → Sends (codes "\n") v6 v7 r
      → Sends (event_line s e) v0 v7 r
  line_sent r mark comment last =
      sends_after v0 v1 v7 (line_head e) (after_head s e) r head
      (sends_after v1 v2 v7 (line_place e) (after_place s e) r place
      (sends_after v2 v3 v7 (codes " ") (after_blank s e) r blank
      (sends_after v3 v4 v7 (line_value e) (after_value s e) r value
      (sends_after v4 v5 v7 (codes " # ") (after_mark s e) r mark
      (sends_after v5 v6 v7 (line_comment s e) (codes "\n") r comment last)))))

-- ---- the first lines

abbrev pub first_head : SetupView → List ℕ
first_head s = joined_texts (codes "rcce trace 1 nue " ∷ decimal s.nue ∷ codes " layout " ∷ layout_name s.layout ∷ codes " hosts " ∷ [])

abbrev pub first_hosts : SetupView → List ℕ
first_hosts s = joined_texts (map (host_words s) (range_with_len 0 s.nue))

abbrev pub first_comms : SetupView → List ℕ
first_comms s = joined_texts (map (comm_line_after s) (range_with_len 0 15))

abbrev pub after_first_head : SetupView → List ℕ
after_first_head s = first_hosts s ++ (codes "\n" ++ first_comms s)

module _ (s : SetupView) (v0 v1 v2 v3 v4 : SinkView) where
  pub first_head_cut : CutShort (first_head s) v0 v1 → CutShort (first_lines s) v0 v1
  first_head_cut cut = cut_then v0 v1 (first_head s) (after_first_head s) cut

  pub first_hosts_cut : v1 ≡ with_text (first_head s) v0 → CutShort (first_hosts s) v1 v2 → CutShort (first_lines s) v0 v2
  first_hosts_cut head cut = cut_after v0 v1 v2 (first_head s) (after_first_head s) head (cut_then v1 v2 (first_hosts s) (codes "\n" ++ first_comms s) cut)

  pub first_end_cut : v1 ≡ with_text (first_head s) v0 → v2 ≡ with_text (first_hosts s) v1 → CutShort (codes "\n") v2 v3 → CutShort (first_lines s) v0 v3
  first_end_cut head hosts cut =
      cut_after v0 v1 v3 (first_head s) (after_first_head s) head
      (cut_after v1 v2 v3 (first_hosts s) (codes "\n" ++ first_comms s) hosts (cut_then v2 v3 (codes "\n") (first_comms s) cut))

  pub first_sent : (r : Result (Unit {0}) WriteFault) → v1 ≡ with_text (first_head s) v0 → v2 ≡ with_text (first_hosts s) v1 → v3 ≡ with_text (codes "\n") v2
      → Sends (first_comms s) v3 v4 r → Sends (first_lines s) v0 v4 r
  first_sent r head hosts end comms =
      sends_after v0 v1 v4 (first_head s) (after_first_head s) r head
      (sends_after v1 v2 v4 (first_hosts s) (codes "\n" ++ first_comms s) r hosts
      (sends_after v2 v3 v4 (codes "\n") (first_comms s) r end comms))
