-- The words that are noted once a line of four words was stored, the last word first.
use Rattle.std.proofs.Common.{◌≡◌, ◌≢◌, ℕ, zero, suc, ◌+◌, ◌*◌, ◌<◌, Bool, List, [], ◌∷◌, Some, refl, sym, ◌∙◌, ap, subst, arith}
use Rattle.scc_base.specs.Heads.{MessageHead}
use Rattle.scc_base.specs.declared.events.Event.{Event}
use Rattle.scc_proto.specs.Messages.{Notes, noted_word, note_word, header_word}
use Rattle.scc_proto.specs.Stages.{Record}
use Rattle.scc_proto.specs.Ports.{Seat, MayMakeAll, record_on}
use Rattle.scc_proto.proofs.Tests.{same_or_other}
use Rattle.scc_proto.proofs.Words.NoteFacts.{noted_here, noted_there}
use Rattle.scc_proto.proofs.Layouts.PlaceMoves.{Makes}
use Rattle.send_recv.specs.Bytes.{word_of_bytes}
use Rattle.send_recv.proofs.Looks.LookLemmas.{on_four}

-- ---- four events

pub record FourMade (seat : Seat) (rec last : Record) (e0 e1 e2 e3 : Event) : Type 0 where
  pub may : MayMakeAll seat rec (e0 ∷ e1 ∷ e2 ∷ e3 ∷ [])
  pub becomes : record_on seat rec (e0 ∷ e1 ∷ e2 ∷ e3 ∷ []) ≡ last

pub four_made : (seat : Seat) (a b c d last : Record) (e0 e1 e2 e3 : Event) → Makes seat a e0 b → Makes seat b e1 c → Makes seat c e2 d → Makes seat d e3 last → FourMade seat a last e0 e1 e2 e3
four_made seat a b c d last e0 e1 e2 e3 m0 m1 m2 m3 = record {
  may = (
    m0.may,
    subst (λ (x : Record). MayMakeAll seat x (e1 ∷ e2 ∷ e3 ∷ [])) (sym m0.becomes) (
      m1.may,
      subst (λ (x : Record). MayMakeAll seat x (e2 ∷ e3 ∷ [])) (sym m1.becomes) (m2.may, subst (λ (x : Record). MayMakeAll seat x (e3 ∷ [])) (sym m2.becomes) (m3.may, tt)),
    ),
  );
  becomes = on_four seat a b c d last e0 e1 e2 e3 m0.becomes m1.becomes m2.becomes m3.becomes;
}

-- ---- the words of a line of a chunk

abbrev pub line_drafted : List ℕ → ℕ → ℕ → Notes → Notes
line_drafted bytes start i notes = note_word (4 * i) (word_of_bytes bytes (start + 32 * i))
    (note_word (4 * i + 1) (word_of_bytes bytes (start + 32 * i + 8))
    (note_word (4 * i + 2) (word_of_bytes bytes (start + 32 * i + 16))
    (note_word (4 * i + 3) (word_of_bytes bytes (start + 32 * i + 24)) notes)))

-- the words of the first lines are noted
abbrev pub LinesNoted : List ℕ → ℕ → Notes → ℕ → Type 0
LinesNoted bytes start notes lines = (k : ℕ) → k < 4 * lines → noted_word notes k ≡ Some (word_of_bytes bytes (start + 8 * k))

note_or : (notes : Notes) (n v k x : ℕ) → (k ≡ n → v ≡ x) → (k ≢ n → noted_word notes k ≡ Some x) → noted_word (note_word n v notes) k ≡ Some x
note_or notes n v k x here there = same_or_other (noted_word (note_word n v notes) k ≡ Some x) k n
    (λ t e. ap (λ j. noted_word (note_word n v notes) j) e ∙ noted_here n v notes ∙ ap Some (here e))
    (λ t ne. noted_there n v notes k ne ∙ there ne)

pub line_more : (bytes : List ℕ) (start i : ℕ) (notes : Notes) → LinesNoted bytes start notes i → LinesNoted bytes start (line_drafted bytes start i notes) (suc i)
line_more bytes start i notes lines k low =
    let n3 = note_word (4 * i + 3) (word_of_bytes bytes (start + 32 * i + 24)) notes in
    let n2 = note_word (4 * i + 2) (word_of_bytes bytes (start + 32 * i + 16)) n3 in
    let n1 = note_word (4 * i + 1) (word_of_bytes bytes (start + 32 * i + 8)) n2 in
    let want = word_of_bytes bytes (start + 8 * k) in
    note_or n1 (4 * i) (word_of_bytes bytes (start + 32 * i)) k want
    (λ e. ap (λ o. word_of_bytes bytes o) (let p : start + 32 * i ≡ start + 8 * k = omega (arith, e) in p))
    (λ ne0. note_or n2 (4 * i + 1) (word_of_bytes bytes (start + 32 * i + 8)) k want
    (λ e. ap (λ o. word_of_bytes bytes o) (let p : start + 32 * i + 8 ≡ start + 8 * k = omega (arith, e) in p))
    (λ ne1. note_or n3 (4 * i + 2) (word_of_bytes bytes (start + 32 * i + 16)) k want
    (λ e. ap (λ o. word_of_bytes bytes o) (let p : start + 32 * i + 16 ≡ start + 8 * k = omega (arith, e) in p))
    (λ ne2. note_or notes (4 * i + 3) (word_of_bytes bytes (start + 32 * i + 24)) k want
    (λ e. ap (λ o. word_of_bytes bytes o) (let p : start + 32 * i + 24 ≡ start + 8 * k = omega (arith, e) in p))
    (λ ne3. lines k (omega (arith, low, ne0, ne1, ne2, ne3))))))

pub no_lines : (bytes : List ℕ) (start : ℕ) (notes : Notes) → LinesNoted bytes start notes 0
no_lines bytes start notes k low = absurd (omega (arith, low))

-- ---- the words of a header line

abbrev pub header_drafted : MessageHead → Bool → Notes
header_drafted head posted = note_word 0 (header_word head posted 0) (note_word 1 (header_word head posted 1) (note_word 2 (header_word head posted 2) (note_word 3 (header_word head posted 3) [])))

pub header_noted : (head : MessageHead) (posted : Bool) (k : ℕ) → k < 4 → noted_word (header_drafted head posted) k ≡ Some (header_word head posted k)
header_noted head posted zero low = refl
header_noted head posted (suc zero) low = refl
header_noted head posted (suc (suc zero)) low = refl
header_noted head posted (suc (suc (suc zero))) low = refl
header_noted head posted (suc (suc (suc (suc k)))) low = absurd (omega (arith, low))
