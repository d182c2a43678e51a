-- The header line of a sender, and the lines of its chunk buffer, as lines whose words a record notes.
use Rattle.std.proofs.Common.{◌≡◌, ℕ, ◌+◌, ◌-◌, ◌*◌, ◌<◌, Bool, true, false, ◌==◌, cond, List, Option, Some, None, option_map, option_and_then, refl, sym, ◌∙◌, ap, arith, zero-add}
use Rattle.scc_base.specs.Places.{first_heap, LineAt}
use Rattle.scc_base.specs.Layouts.{first_chunk, chunk_lines}
use Rattle.scc_base.specs.Setups.{IsSetup, host_of}
use Rattle.scc_proto.specs.Tables.{table_with}
use Rattle.scc_proto.specs.Messages.{Notes, noted_word, note_word, Progress}
use Rattle.scc_proto.specs.Stages.{Stage, Taking, Record}
use Rattle.scc_proto.specs.Words.{Role}
use Rattle.scc_proto.specs.Records.{load_by, noted_by}
use Rattle.scc_proto.specs.Ports.{Seat}
use Rattle.scc_proto.proofs.Tests.{put_here, eqb_same}
use Rattle.scc_proto.proofs.Layouts.Roles.{if_yes, role_header, role_chunk_line, chunk_lines-end}
use Rattle.scc_proto.proofs.Layouts.PlaceMoves.{header_loaded, chunk_loaded}
use Rattle.put_get.specs.Transfers.{line_at}
use Rattle.send_recv.specs.Steps.{core_of}
use Rattle.send_recv.specs.Receiving.{IsNotedLine}
use Rattle.send_recv.proofs.Lines.NotedReads.{HasWords, IsSource, IsCondition}

same_branch : {A : Type 0} (b : Bool) (x y z : A) → cond b y (cond b x z) ≡ cond b y z
same_branch true x y z = refl
same_branch false x y z = refl

-- what was put last stands
pub put_again : {A : Type 0} (table : ℕ → A) (i : ℕ) (x y : A) → table_with (table_with table i x) i y ≡ table_with table i y
put_again table i x y = λ p k. same_branch (k == i) x y (table k) p

-- the header words of rank j are noted
abbrev pub with_header : Record → ℕ → Notes → Record
with_header base j n = record base { notes = table_with base.notes j (Some n) }

-- a chunk is being taken, with these words of it noted
abbrev pub with_taken : Record → ℕ → Progress → Notes → Record
with_taken base j message n = record base { stage = Taking j message n }

pub header_source : (seat : Seat) (base : Record) (j : ℕ) → IsSetup seat.setup → j < seat.setup.nue → IsSource seat (line_at (core_of seat j) 0) 0 (with_header base j)
header_source seat base j valid below = record {
  next = λ k v n small. (header_loaded seat (with_header base j n) valid j k v below).becomes
      ∙ ap (λ (f : ℕ → Option Notes). record base { notes = f })
      (put_again base.notes j (Some n) (option_map (note_word k v) (table_with base.notes j (Some n) j))
      ∙ ap (λ (o : Option Notes). table_with base.notes j (option_map (note_word k v) o)) (put_here base.notes j (Some n))
      ∙ ap (λ m. table_with base.notes j (Some (note_word m v n))) (sym (zero-add k)));
  honest = λ k v n small honest x h. honest x
      (ap (λ (r : Role). noted_by (load_by seat.setup seat.rank 0 r) (with_header base j n)) (role_header seat.setup valid j k below)
      ∙ ap (λ (o : Option Notes). option_and_then (λ (header : Notes). noted_word header k) o) (put_here base.notes j (Some n))
      ∙ ap (λ m. noted_word n m) (sym (zero-add k)) ∙ h);
}

pub chunk_source : (seat : Seat) (base : Record) (j i : ℕ) (message : Progress) → IsSetup seat.setup → j < seat.setup.nue → i < chunk_lines seat.setup.layout
    → IsSource seat (line_at (core_of seat j) (first_chunk seat.setup.layout + i)) (4 * i) (with_taken base j message)
chunk_source seat base j i message valid below low = record {
  next = λ k v n small. (chunk_loaded seat (with_taken base j message n) valid j i k v below low).becomes
      ∙ ap (λ (st : Stage). record base { stage = st }) (if_yes (j == j) (Taking j message (note_word (4 * i + k) v n)) (Taking j message n) (eqb_same j));
  honest = λ k v n small honest x h. honest x
      (ap (λ (r : Role). noted_by (load_by seat.setup seat.rank 0 r) (with_taken base j message n)) (role_chunk_line seat.setup valid j i k below low)
      ∙ if_yes (j == j) (noted_word n (4 * i + k)) None (eqb_same j) ∙ h);
}

-- a cached header line has the noted words
abbrev pub IsNotedHeader : LineAt → Notes → LineAt → List ℕ → Type 0
IsNotedHeader line n l words = l ≡ line → HasWords n 0 words

pub header_condition : (line : LineAt) → IsCondition line 0 (IsNotedHeader line)
header_condition line = record {
  into = λ n words has e. has;
  out = λ n words p. p refl;
  grows = λ n m l words g p e k below. g _ _ (p e k below);
}

pub chunk_condition : (seat : Seat) (j i : ℕ) → i < chunk_lines seat.setup.layout
    → IsCondition (line_at (core_of seat j) (first_chunk seat.setup.layout + i)) (4 * i) (IsNotedLine seat.setup.layout (host_of seat.setup.hosts j))
chunk_condition seat j i low =
    let first = first_chunk seat.setup.layout in
    let back : (first + i) - first ≡ i = omega arith in
    let end : first + chunk_lines seat.setup.layout ≡ first_heap = chunk_lines-end seat.setup.layout in
    record {
      into = λ n words has c lo hi k below. ap (λ m. noted_word n (4 * m + k)) back ∙ has k below;
      out = λ n words p k below. ap (λ m. noted_word n (4 * m + k)) (sym back) ∙ p refl (omega arith) (omega (arith, end)) k below;
      grows = λ n m l words g p c lo hi k below. g _ _ (p c lo hi k below);
    }
