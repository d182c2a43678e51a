-- Lines whose words a record notes: whatever is evicted between the reads of a line, each load of a noted word
-- tells what is noted, so what is noted only grows, and the words of the line read are noted.
use Rattle.std.proofs.Common.{◌≡◌, ◌≢◌, ℕ, zero, suc, ◌+◌, ◌<◌, cond, List, [], ◌∷◌, Some, refl, sym, ◌∙◌, ap, subst, arith, slice_index}
use Rattle.scc_base.specs.Places.{LineAt, word_of_line}
use Rattle.scc_base.specs.Events.{load_of}
use Rattle.scc_proto.specs.Messages.{Notes, noted_word, note_word}
use Rattle.scc_proto.specs.Stages.{Record}
use Rattle.scc_proto.specs.Records.{IsHonest}
use Rattle.scc_proto.specs.Ports.{Seat, Sight, Did, WereMade, record_in, record_next, record_on}
use Rattle.scc_proto.proofs.PortLaws.{record_did, seat_kept}
use Rattle.scc_proto.proofs.Words.NoteFacts.{noted_here, noted_there}
use Rattle.scc_proto.proofs.Tests.{same_or_other}
use Rattle.put_get.specs.Accesses.{loads_of}
use Rattle.put_get.specs.Cores.{Private, Fetch, Held, Loaded, ReadsLine}
use Rattle.put_get.proofs.EntryLemmas.{EachEntry, each_held, each_fills, each_weaker}

-- what is noted stays noted
abbrev pub Grows : Notes → Notes → Type 0
Grows n m = (k x : ℕ) → noted_word n k ≡ Some x → noted_word m k ≡ Some x

pub grows_four : (a b c d e : Notes) → Grows a b → Grows b c → Grows c d → Grows d e → Grows a e
grows_four a b c d e f g h i = λ k x n. i k x (h k x (g k x (f k x n)))

-- a word noted again with its value
pub grows_note : (k v : ℕ) (n : Notes) → ((x : ℕ) → noted_word n k ≡ Some x → v ≡ x) → Grows n (note_word k v n)
grows_note k v n same = λ i x h. same_or_other (noted_word (note_word k v n) i ≡ Some x) i k
    (λ t is. subst (λ j. noted_word (note_word k v n) j ≡ Some x) (sym is) (noted_here k v n ∙ ap Some (same x (subst (λ j. noted_word n j ≡ Some x) is h))))
    (λ t apart. noted_there k v n i apart ∙ h)

-- the four words of the line are these, from note `first` on
abbrev pub HasWords : Notes → ℕ → List ℕ → Type 0
HasWords n first words = (k : ℕ) → k < 4 → noted_word n (first + k) ≡ Some (slice_index words k)

-- the records `shape n` note the words of this line, from note `first` on
pub record IsSource (seat : Seat) (line : LineAt) (first : ℕ) (shape : Notes → Record) : Type 0 where
  pub next : (k v : ℕ) (n : Notes) → k < 4 → record_next seat (shape n) (load_of (word_of_line line k) v) ≡ shape (note_word (first + k) v n)
  pub honest : (k v : ℕ) (n : Notes) → k < 4 → IsHonest seat.setup seat.rank (shape n) (load_of (word_of_line line k) v) → (x : ℕ) → noted_word n (first + k) ≡ Some x → v ≡ x

-- a condition on cached lines that says of this line that its words are noted, and that stays true
pub record IsCondition (line : LineAt) (first : ℕ) (P : Notes → LineAt → List ℕ → Type 0) : Type 0 where
  pub into : (n : Notes) (words : List ℕ) → HasWords n first words → P n line words
  pub out : (n : Notes) (words : List ℕ) → P n line words → HasWords n first words
  pub grows : (n m : Notes) (l : LineAt) (words : List ℕ) → Grows n m → P n l words → P m l words

-- what reads of the line leave: the words are noted, and no note is lost
pub record Reads (seat : Seat) (shape : Notes → Record) (first : ℕ) (P : Notes → LineAt → List ℕ → Type 0) (n : Notes) (words : List ℕ) (t : Sight) (d : Private) : Type 0 where
  pub notes : Notes
  pub seat_is : t.seat ≡ seat
  pub record_is : record_in t ≡ shape notes
  pub grows : Grows n notes
  pub has : HasWords notes first words
  pub cached : EachEntry (P notes) d.lines

-- one load after others
pub record Noting (seat : Seat) (shape : Notes → Record) (first : ℕ) (n : Notes) (k v : ℕ) (rec : Record) : Type 0 where
  pub is : rec ≡ shape (note_word (first + k) v n)
  pub grows : Grows n (note_word (first + k) v n)

one_noted : (seat : Seat) (line : LineAt) (first : ℕ) (shape : Notes → Record) → IsSource seat line first shape
    → (k v : ℕ) (n : Notes) (rec : Record) → k < 4 → rec ≡ shape n → IsHonest seat.setup seat.rank rec (load_of (word_of_line line k) v)
    → Noting seat shape first n k v (record_next seat rec (load_of (word_of_line line k) v))
one_noted seat line first shape source k v n rec below is honest = record {
  is = ap (λ (r : Record). record_next seat r (load_of (word_of_line line k) v)) is ∙ source.next k v n below;
  grows = grows_note (first + k) v n (source.honest k v n below (subst (λ (r : Record). IsHonest seat.setup seat.rank r (load_of (word_of_line line k) v)) is honest));
}

-- the notes after four loads
abbrev four_notes : ℕ → List ℕ → Notes → Notes
four_notes first words n = note_word (first + 3) (slice_index words 3) (note_word (first + 2) (slice_index words 2)
    (note_word (first + 1) (slice_index words 1) (note_word (first + 0) (slice_index words 0) n)))

skip : (first i j v : ℕ) (m : Notes) → i ≢ j → noted_word (note_word (first + j) v m) (first + i) ≡ noted_word m (first + i)
skip first i j v m apart = let e : first + i ≢ first + j = λ q. apart (omega (arith, q)) in noted_there (first + j) v m (first + i) e

four_have_by : (first w0 w1 w2 w3 : ℕ) (n : Notes) → (k : ℕ) → k < 4
    → noted_word (note_word (first + 3) w3 (note_word (first + 2) w2 (note_word (first + 1) w1 (note_word (first + 0) w0 n)))) (first + k) ≡ Some (slice_index (w0 ∷ w1 ∷ w2 ∷ w3 ∷ []) k)
four_have_by first w0 w1 w2 w3 n zero below =
    let m0 : Notes = note_word (first + 0) w0 n in
    let m1 : Notes = note_word (first + 1) w1 m0 in
    skip first 0 3 w3 (note_word (first + 2) w2 m1) (omega arith) ∙ skip first 0 2 w2 m1 (omega arith) ∙ skip first 0 1 w1 m0 (omega arith) ∙ noted_here (first + 0) w0 n
four_have_by first w0 w1 w2 w3 n (suc zero) below =
    let m0 : Notes = note_word (first + 0) w0 n in
    let m1 : Notes = note_word (first + 1) w1 m0 in
    skip first 1 3 w3 (note_word (first + 2) w2 m1) (omega arith) ∙ skip first 1 2 w2 m1 (omega arith) ∙ noted_here (first + 1) w1 m0
four_have_by first w0 w1 w2 w3 n (suc (suc zero)) below =
    let m1 : Notes = note_word (first + 1) w1 (note_word (first + 0) w0 n) in
    skip first 2 3 w3 (note_word (first + 2) w2 m1) (omega arith) ∙ noted_here (first + 2) w2 m1
four_have_by first w0 w1 w2 w3 n (suc (suc (suc zero))) below = noted_here (first + 3) w3 (note_word (first + 2) w2 (note_word (first + 1) w1 (note_word (first + 0) w0 n)))
four_have_by first w0 w1 w2 w3 n (suc (suc (suc (suc k)))) below = absurd (omega (arith, below))

four_same : (words : List ℕ) (k : ℕ) → k < 4 → slice_index (slice_index words 0 ∷ slice_index words 1 ∷ slice_index words 2 ∷ slice_index words 3 ∷ []) k ≡ slice_index words k
four_same words zero below = refl
four_same words (suc zero) below = refl
four_same words (suc (suc zero)) below = refl
four_same words (suc (suc (suc zero))) below = refl
four_same words (suc (suc (suc (suc k)))) below = absurd (omega (arith, below))

four_have : (first : ℕ) (words : List ℕ) (n : Notes) → HasWords (four_notes first words n) first words
four_have first words n = λ k below. four_have_by first (slice_index words 0) (slice_index words 1) (slice_index words 2) (slice_index words 3) n k below ∙ ap Some (four_same words k below)

-- the record after four loads of the line
pub record Loads (seat : Seat) (shape : Notes → Record) (first : ℕ) (words : List ℕ) (n : Notes) (t : Sight) : Type 0 where
  pub seat_is : t.seat ≡ seat
  pub record_is : record_in t ≡ shape (four_notes first words n)
  pub grows : Grows n (four_notes first words n)

loads_note : (s t : Sight) (seat : Seat) (line : LineAt) (first : ℕ) (shape : Notes → Record) (words : List ℕ) (n : Notes) → IsSource seat line first shape
    → s.seat ≡ seat → record_in s ≡ shape n → Did s (loads_of line words) t → Loads seat shape first words n t
loads_note s t seat line first shape words n source same is did =
    let made : WereMade seat (record_in s) (loads_of line words) = subst (λ (x : Seat). WereMade x (record_in s) (loads_of line words)) same did.made in
    let n0 : Notes = note_word (first + 0) (slice_index words 0) n in
    let n1 : Notes = note_word (first + 1) (slice_index words 1) n0 in
    let n2 : Notes = note_word (first + 2) (slice_index words 2) n1 in
    let a = one_noted seat line first shape source 0 (slice_index words 0) n (record_in s) (omega arith) is made.0.honest in
    let b = one_noted seat line first shape source 1 (slice_index words 1) n0 _ (omega arith) a.is made.1.0.honest in
    let c = one_noted seat line first shape source 2 (slice_index words 2) n1 _ (omega arith) b.is made.1.1.0.honest in
    let d = one_noted seat line first shape source 3 (slice_index words 3) n2 _ (omega arith) c.is made.1.1.1.0.honest in
    record {
      seat_is = seat_kept s (loads_of line words) t did ∙ same;
      record_is = record_did s (loads_of line words) t did ∙ ap (λ (x : Seat). record_on x (record_in s) (loads_of line words)) same ∙ d.is;
      grows = grows_four n n0 n1 n2 (four_notes first words n) a.grows b.grows c.grows d.grows;
    }

-- one fetch of the line, from the cache or by loads
fetch_notes : (s t : Sight) (c d : Private) (seat : Seat) (line : LineAt) (first : ℕ) (shape : Notes → Record) (P : Notes → LineAt → List ℕ → Type 0) (words : List ℕ) (n : Notes)
    → IsSource seat line first shape → IsCondition line first P → s.seat ≡ seat → record_in s ≡ shape n → EachEntry (P n) c.lines
    → Fetch s c line words t d → Reads seat shape first P n words t d
fetch_notes s t c d seat line first shape P words n source cond same is cached (Held h e f) = record {
  notes = n;
  seat_is = ap (λ (x : Sight). x.seat) e ∙ same;
  record_is = ap (λ (x : Sight). record_in x) e ∙ is;
  grows = λ k x g. g;
  has = cond.out n words (each_held (P n) c.lines line words cached h);
  cached = subst (λ (x : Private). EachEntry (P n) x.lines) (sym f) cached;
}
fetch_notes s t c d seat line first shape P words n source cond same is cached (Loaded h len did fills) =
    let l = loads_note s t seat line first shape words n source same is did in
    let m : Notes = four_notes first words n in
    record {
      notes = m;
      seat_is = l.seat_is;
      record_is = l.record_is;
      grows = l.grows;
      has = four_have first words n;
      cached = each_fills (P m) fills (each_weaker (P n) (P m) c.lines (λ k ws. cond.grows n m k ws l.grows) cached) (cond.into m words (four_have first words n));
    }

-- a line was read: its four words are noted, whatever was evicted on the way
pub line_notes : (s t : Sight) (c d : Private) (seat : Seat) (line : LineAt) (first : ℕ) (shape : Notes → Record) (P : Notes → LineAt → List ℕ → Type 0) (words : List ℕ) (n : Notes)
    → IsSource seat line first shape → IsCondition line first P → s.seat ≡ seat → record_in s ≡ shape n → EachEntry (P n) c.lines
    → ReadsLine s c line words t d → Reads seat shape first P n words t d
line_notes s t c d seat line first shape P words n source cond same is cached r =
    let w0 = r.word0 in
    let a = fetch_notes s r.s1 c r.c1 seat line first shape P w0.words n source cond same is cached w0.fetch in
    let w1 = r.word1 in
    let b = fetch_notes r.s1 r.s2 r.c1 r.c2 seat line first shape P w1.words a.notes source cond a.seat_is a.record_is a.cached w1.fetch in
    let w2 = r.word2 in
    let e = fetch_notes r.s2 r.s3 r.c2 r.c3 seat line first shape P w2.words b.notes source cond b.seat_is b.record_is b.cached w2.fetch in
    let w3 = r.word3 in
    let f = fetch_notes r.s3 t r.c3 d seat line first shape P w3.words e.notes source cond e.seat_is e.record_is e.cached w3.fetch in
    record {
      notes = f.notes;
      seat_is = f.seat_is;
      record_is = f.record_is;
      grows = grows_four n a.notes b.notes e.notes f.notes a.grows b.grows e.grows f.grows;
      has = λ k below. by a.notes b.notes e.notes f.notes b.grows e.grows f.grows w0.words w1.words w2.words w3.words
          a.has b.has e.has f.has w0.is w1.is w2.is w3.is k below;
      cached = f.cached;
    }
  where
    by : (n0 n1 n2 n3 : Notes) → Grows n0 n1 → Grows n1 n2 → Grows n2 n3 → (v0 v1 v2 v3 : List ℕ)
        → HasWords n0 first v0 → HasWords n1 first v1 → HasWords n2 first v2 → HasWords n3 first v3
        → slice_index words 0 ≡ slice_index v0 0 → slice_index words 1 ≡ slice_index v1 1 → slice_index words 2 ≡ slice_index v2 2 → slice_index words 3 ≡ slice_index v3 3
        → (k : ℕ) → k < 4 → noted_word n3 (first + k) ≡ Some (slice_index words k)
    by n0 n1 n2 n3 g1 g2 g3 v0 v1 v2 v3 h0 h1 h2 h3 i0 i1 i2 i3 zero below =
        g3 _ _ (g2 _ _ (g1 _ _ (h0 0 (omega arith)))) ∙ ap Some (sym i0)
    by n0 n1 n2 n3 g1 g2 g3 v0 v1 v2 v3 h0 h1 h2 h3 i0 i1 i2 i3 (suc zero) below =
        g3 _ _ (g2 _ _ (h1 1 (omega arith))) ∙ ap Some (sym i1)
    by n0 n1 n2 n3 g1 g2 g3 v0 v1 v2 v3 h0 h1 h2 h3 i0 i1 i2 i3 (suc (suc zero)) below = g3 _ _ (h2 2 (omega arith)) ∙ ap Some (sym i2)
    by n0 n1 n2 n3 g1 g2 g3 v0 v1 v2 v3 h0 h1 h2 h3 i0 i1 i2 i3 (suc (suc (suc zero))) below = h3 3 (omega arith) ∙ ap Some (sym i3)
    by n0 n1 n2 n3 g1 g2 g3 v0 v1 v2 v3 h0 h1 h2 h3 i0 i1 i2 i3 (suc (suc (suc (suc k)))) below = absurd (omega (arith, below))
