-- A core whose write-combining buffer is empty between its calls, and whose copies equal the shared words.
use Rattle.std.proofs.Common.{◌≡◌, ℕ, zero, suc, ◌<◌, ◌==◌, ◌&&◌, Bool, true, false, not, if◌then◌else◌, unwrap_or, List, [], ◌∷◌, ◌++◌, drop, length, slice_index, slice_set, Option, None, Some, refl, sym, ◌∙◌, ap, subst, arith}
use Rattle.scc_base.specs.Places.{LineAt, WordAt, line_of_word, word_of_line, same_line}
use Rattle.scc_base.specs.Events.{store_of}
use Rattle.scc_proto.specs.Words.{Memory, memory_after, word_at}
use Rattle.scc_proto.proofs.Tests.{eqb_same}
use Rattle.line_cache.specs.declared.cache.Entry.{Entry}
use Rattle.line_cache.specs.Lines.{with_filled_line, cached_words, line_noted, most_lines, lines_with_word, entry_with_word}
use Rattle.line_cache.proofs.LineLemmas.{same_line-is}
use Rattle.write_combine.specs.declared.combiner.Out.{Out}
use Rattle.write_combine.specs.Combining.{handed_out, held_after, one_word, whole_line}
use Rattle.put_get.specs.Accesses.{stores_of, stores_of_line}
use Rattle.lab_plain.specs.Scenes.{CoreScene, after_all, after_flushing, answer, lines_after_evictor, line_in, waiting_word, without_line, word_fetched, word_read, word_read_by}
use Rattle.lab_examples.specs.Alone.{LoneCall, FlushedWrite, LinePut, WordRead, LineGet, Invalidation, AreCallsOfWords, IsCallOfWord, call_answer, call_answers, scene_after_call, scene_after_calls, words_after_call, words_after_calls, words_answer, words_answers}

-- ---- copies

-- each copy equals the shared words
abbrev pub AreCopies : Memory → List Entry → Type 0
AreCopies m [] = Unit {0}
AreCopies m (e ∷ es) = (e.words ≡ line_in m e.line) × AreCopies m es

held_copy : (m : Memory) (es : List Entry) (line : LineAt) (words : List ℕ) → AreCopies m es → cached_words es line ≡ Some words → words ≡ line_in m line
held_copy m [] line words copies found = absurd (cc (found))
held_copy m (e ∷ es) line words copies found = by (same_line e.line line) refl found (held_copy m es line words copies.1)
  where
    by : (b : Bool) → same_line e.line line ≡ b → (if b then Some e.words else cached_words es line) ≡ Some words → (cached_words es line ≡ Some words → words ≡ line_in m line) → words ≡ line_in m line
    by true same is rest = sym (ap (λ (o : Option (List ℕ)). unwrap_or o words) is) ∙ copies.0 ∙ ap (line_in m) (same_line-is e.line line same)
    by false other is rest = rest is

copies_push : (m : Memory) (es : List Entry) (e : Entry) → AreCopies m es → e.words ≡ line_in m e.line → AreCopies m (es ++ e ∷ [])
copies_push m [] e copies is = (is, tt)
copies_push m (x ∷ es) e copies is = (copies.0, copies_push m es e copies.1 is)

copies_front : (m : Memory) (es : List Entry) (full : Bool) → AreCopies m es → AreCopies m (if full then drop 1 es else es)
copies_front m es false copies = copies
copies_front m [] true copies = tt
copies_front m (e ∷ es) true copies = copies.1

copies_filled : (m : Memory) (es : List Entry) (line : LineAt) → AreCopies m es → AreCopies m (with_filled_line es line (line_in m line))
copies_filled m es line copies =
    copies_push m (if length es == most_lines then drop 1 es else es) (record { line = line; words = line_in m line }) (copies_front m es (length es == most_lines) copies) refl

copies_without : (m : Memory) (line : LineAt) (es : List Entry) → AreCopies m es → AreCopies m (without_line line es)
copies_without m line [] copies = tt
copies_without m line (e ∷ es) copies = by (not (same_line e.line line)) (copies_without m line es copies.1)
  where
    by : (b : Bool) → AreCopies m (without_line line es) → AreCopies m (if b then e ∷ without_line line es else without_line line es)
    by true rest = (copies.0, rest)
    by false rest = rest

copies_left : (m : Memory) (evict : Option LineAt) (es : List Entry) → AreCopies m es → AreCopies m (lines_after_evictor evict es)
copies_left m None es copies = copies
copies_left m (Some line) es copies = copies_without m line es copies

copies_same : (m n : Memory) → ((line : LineAt) → line_in m line ≡ line_in n line) → (es : List Entry) → AreCopies m es → AreCopies n es
copies_same m n same [] copies = tt
copies_same m n same (e ∷ es) copies = (copies.0 ∙ same e.line, copies_same m n same es copies.1)

-- ---- a word is stored

no_word : (a b c : Bool) → (a && b) ≡ false → (a && (b && c)) ≡ false
no_word true true c t = absurd (cc (t))
no_word true false c t = refl
no_word false b c t = refl

word_other : (m : Memory) (p : WordAt) (v : ℕ) (line : LineAt) (k : ℕ) → same_line line (line_of_word p) ≡ false
    → word_at (memory_after m (store_of p v)) (word_of_line line k) ≡ word_at m (word_of_line line k)
word_other m p v line k other = ap (λ (b : Bool). if b then v else m.word line.core line.line k) (no_word (line.core == p.core) (line.line == p.line) (k == p.word) other)

line_other : (m : Memory) (p : WordAt) (v : ℕ) (line : LineAt) → same_line line (line_of_word p) ≡ false → line_in (memory_after m (store_of p v)) line ≡ line_in m line
line_other m p v line other = λ i. word_other m p v line 0 other i ∷ word_other m p v line 1 other i ∷ word_other m p v line 2 other i ∷ word_other m p v line 3 other i ∷ []

word_here : (m : Memory) (p : WordAt) (v k : ℕ)
    → word_at (memory_after m (store_of p v)) (word_of_line (line_of_word p) k) ≡ (if k == p.word then v else word_at m (word_of_line (line_of_word p) k))
word_here m p v k = λ i. if eqb_same p.core i && (eqb_same p.line i && (k == p.word)) then v else m.word p.core p.line k

set_by : (a b c d v w : ℕ) → w < 4
    → (if 0 == w then v else a) ∷ (if 1 == w then v else b) ∷ (if 2 == w then v else c) ∷ (if 3 == w then v else d) ∷ [] ≡ slice_set (a ∷ b ∷ c ∷ d ∷ []) w v
set_by a b c d v zero below = refl
set_by a b c d v (suc zero) below = refl
set_by a b c d v (suc (suc zero)) below = refl
set_by a b c d v (suc (suc (suc zero))) below = refl
set_by a b c d v (suc (suc (suc (suc w)))) below = absurd (omega (arith, below))

line_here : (m : Memory) (p : WordAt) (v : ℕ) → p.word < 4 → line_in (memory_after m (store_of p v)) (line_of_word p) ≡ slice_set (line_in m (line_of_word p)) p.word v
line_here m p v below =
    (λ i. word_here m p v 0 i ∷ word_here m p v 1 i ∷ word_here m p v 2 i ∷ word_here m p v 3 i ∷ [])
    ∙ set_by (m.word p.core p.line 0) (m.word p.core p.line 1) (m.word p.core p.line 2) (m.word p.core p.line 3) v p.word below

entry_written : (m : Memory) (p : WordAt) (v : ℕ) (e : Entry) → p.word < 4 → e.words ≡ line_in m e.line
    → (entry_with_word e p v).words ≡ line_in (memory_after m (store_of p v)) (entry_with_word e p v).line
entry_written m p v e below copy = by (same_line e.line (line_of_word p)) refl
  where
    after : Entry
    after = record { line = e.line; words = slice_set e.words p.word v }

    by : (b : Bool) → same_line e.line (line_of_word p) ≡ b → (if b then after else e).words ≡ line_in (memory_after m (store_of p v)) (if b then after else e).line
    by true same =
        let at = same_line-is e.line (line_of_word p) same in
        (λ i. slice_set (copy i) p.word v) ∙ (λ i. slice_set (line_in m (at i)) p.word v) ∙ sym (line_here m p v below) ∙ ap (line_in (memory_after m (store_of p v))) (sym at)
    by false other = copy ∙ sym (line_other m p v e.line other)

copies_noted : (m : Memory) (p : WordAt) (v : ℕ) (es : List Entry) → p.word < 4 → AreCopies m es → AreCopies (memory_after m (store_of p v)) (lines_with_word es p v)
copies_noted m p v [] below copies = tt
copies_noted m p v (e ∷ es) below copies = (entry_written m p v e below copies.0, copies_noted m p v es below copies.1)

-- the stores of a line of which one word was written
one_by : (m : Memory) (core line v w : ℕ) → w < 4
    → after_all m (stores_of (Some (one_word (record { core = core; line = line; word = w }) v))) ≡ memory_after m (store_of (record { core = core; line = line; word = w }) v)
one_by m core line v zero below = refl
one_by m core line v (suc zero) below = refl
one_by m core line v (suc (suc zero)) below = refl
one_by m core line v (suc (suc (suc zero))) below = refl
one_by m core line v (suc (suc (suc (suc w)))) below = absurd (omega (arith, below))

-- ---- a line is stored

-- the shared words after a store of a line's words in this order
abbrev stored_up : Memory → LineAt → List ℕ → Memory
stored_up m line words =
    memory_after (memory_after (memory_after (memory_after m (store_of (word_of_line line 0) (slice_index words 0))) (store_of (word_of_line line 1) (slice_index words 1)))
    (store_of (word_of_line line 2) (slice_index words 2))) (store_of (word_of_line line 3) (slice_index words 3))

-- the words of a line after its store, in either order
module _ (line : LineAt) (words : List ℕ) where
  put_one : (m : Memory) (k : ℕ) → k < 4 → line_in (memory_after m (store_of (word_of_line line k) (slice_index words k))) line ≡ slice_set (line_in m line) k (slice_index words k)
  put_one m k below = line_here m (word_of_line line k) (slice_index words k) below

  put_four : (m : Memory) (a b c d : ℕ) → a < 4 → b < 4 → c < 4 → d < 4
      → line_in (memory_after (memory_after (memory_after (memory_after m (store_of (word_of_line line a) (slice_index words a))) (store_of (word_of_line line b) (slice_index words b)))
      (store_of (word_of_line line c) (slice_index words c))) (store_of (word_of_line line d) (slice_index words d))) line
      ≡ slice_set (slice_set (slice_set (slice_set (line_in m line) a (slice_index words a)) b (slice_index words b)) c (slice_index words c)) d (slice_index words d)
  put_four m a b c d a_below b_below c_below d_below =
      let first = memory_after m (store_of (word_of_line line a) (slice_index words a)) in
      let second = memory_after first (store_of (word_of_line line b) (slice_index words b)) in
      let third = memory_after second (store_of (word_of_line line c) (slice_index words c)) in
      put_one third d d_below
      ∙ ap (λ (l : List ℕ). slice_set l d (slice_index words d)) (put_one second c c_below)
      ∙ ap (λ (l : List ℕ). slice_set (slice_set l c (slice_index words c)) d (slice_index words d)) (put_one first b b_below)
      ∙ ap (λ (l : List ℕ). slice_set (slice_set (slice_set l b (slice_index words b)) c (slice_index words c)) d (slice_index words d)) (put_one m a a_below)

  other_four : (m : Memory) (l : LineAt) (a b c d : ℕ) → same_line l line ≡ false
      → line_in (memory_after (memory_after (memory_after (memory_after m (store_of (word_of_line line a) (slice_index words a))) (store_of (word_of_line line b) (slice_index words b)))
      (store_of (word_of_line line c) (slice_index words c))) (store_of (word_of_line line d) (slice_index words d))) l ≡ line_in m l
  other_four m l a b c d other =
      let first = memory_after m (store_of (word_of_line line a) (slice_index words a)) in
      let second = memory_after first (store_of (word_of_line line b) (slice_index words b)) in
      let third = memory_after second (store_of (word_of_line line c) (slice_index words c)) in
      line_other third (word_of_line line d) (slice_index words d) l other ∙ line_other second (word_of_line line c) (slice_index words c) l other
      ∙ line_other first (word_of_line line b) (slice_index words b) l other ∙ line_other m (word_of_line line a) (slice_index words a) l other

  -- upwards, as the cache notes them, or downwards, as they are stored
  either_way : (m : Memory) (l : LineAt) → line_in (stored_up m line words) l ≡ line_in (after_all m (stores_of_line (whole_line line words))) l
  either_way m l = by (same_line l line) refl
    where
      by : (b : Bool) → same_line l line ≡ b → line_in (stored_up m line words) l ≡ line_in (after_all m (stores_of_line (whole_line line words))) l
      by true same =
          subst (λ (x : LineAt). line_in (stored_up m line words) x ≡ line_in (after_all m (stores_of_line (whole_line line words))) x) (sym (same_line-is l line same))
          (put_four m 0 1 2 3 (omega arith) (omega arith) (omega arith) (omega arith) ∙ sym (put_four m 3 2 1 0 (omega arith) (omega arith) (omega arith) (omega arith)))
      by false other = other_four m l 0 1 2 3 other ∙ sym (other_four m l 3 2 1 0 other)

  copies_put : (m : Memory) (es : List Entry) → AreCopies m es → AreCopies (after_all m (stores_of_line (whole_line line words))) (line_noted es line words)
  copies_put m es copies =
      let p0 = word_of_line line 0 in
      let p1 = word_of_line line 1 in
      let p2 = word_of_line line 2 in
      let p3 = word_of_line line 3 in
      let v0 = slice_index words 0 in
      let v1 = slice_index words 1 in
      let v2 = slice_index words 2 in
      let v3 = slice_index words 3 in
      let m1 = memory_after m (store_of p0 v0) in
      let m2 = memory_after m1 (store_of p1 v1) in
      let m3 = memory_after m2 (store_of p2 v2) in
      let es1 = lines_with_word es p0 v0 in
      let es2 = lines_with_word es1 p1 v1 in
      let es3 = lines_with_word es2 p2 v2 in
      let first : AreCopies m1 es1 = copies_noted m p0 v0 es (omega arith) copies in
      let second : AreCopies m2 es2 = copies_noted m1 p1 v1 es1 (omega arith) first in
      let third : AreCopies m3 es3 = copies_noted m2 p2 v2 es2 (omega arith) second in
      copies_same (stored_up m line words) (after_all m (stores_of_line (whole_line line words))) (either_way m) (line_noted es line words)
      (copies_noted m3 p3 v3 es3 (omega arith) third)

-- ---- one call

-- the buffer is empty, and each copy equals the shared words
pub record IsUpToDate (s : CoreScene) : Type 0 where
  pub out : s.out ≡ None
  pub copies : AreCopies s.memory s.lines

-- a call kept this, and changed the shared words and answered as it would without a cache and a buffer
pub record CallDone (me : ℕ) (call : LoneCall) (s : CoreScene) : Type 0 where
  pub up : IsUpToDate (scene_after_call me call s)
  pub memory : (scene_after_call me call s).memory ≡ words_after_call call s.memory
  pub answer : call_answer me call s ≡ words_answer call s.memory

-- a read of a word changes no shared word, and copies stay copies
record ReadDone (s t : CoreScene) : Type 0 where
  up : IsUpToDate t
  memory : t.memory ≡ s.memory

fetch_done : (me : ℕ) (p : WordAt) (evict : Option LineAt) (s : CoreScene) (o : Option (List ℕ)) → IsUpToDate s → ReadDone s (word_fetched me p evict s o)
fetch_done me p evict s (Some words) up = record { up = record { out = up.out; copies = up.copies }; memory = refl }
fetch_done me p evict s None up = record {
  up = record { out = up.out; copies = copies_left s.memory evict (with_filled_line s.lines (line_of_word p) (line_in s.memory (line_of_word p))) (copies_filled s.memory s.lines (line_of_word p) up.copies) };
  memory = refl;
}

read_done : (me : ℕ) (p : WordAt) (evict : Option LineAt) (s : CoreScene) → IsUpToDate s → ReadDone s (word_read me p evict s)
read_done me p evict s up =
    subst (λ (o : Option ℕ). ReadDone s (word_read_by me p evict s o)) (sym (ap (λ (o : Option Out). waiting_word o p) up.out)) (fetch_done me p evict s (cached_words s.lines (line_of_word p)) up)

word_in_line : (w : ℕ) (f : ℕ → ℕ) → w < 4 → slice_index (f 0 ∷ f 1 ∷ f 2 ∷ f 3 ∷ []) w ≡ f w
word_in_line zero f below = refl
word_in_line (suc zero) f below = refl
word_in_line (suc (suc zero)) f below = refl
word_in_line (suc (suc (suc zero))) f below = refl
word_in_line (suc (suc (suc (suc w)))) f below = absurd (omega (arith, below))

copy_or_words : (s : CoreScene) (line : LineAt) (o : Option (List ℕ)) → cached_words s.lines line ≡ o → IsUpToDate s → unwrap_or o (line_in s.memory line) ≡ line_in s.memory line
copy_or_words s line None is up = refl
copy_or_words s line (Some words) is up = held_copy s.memory s.lines line words up.copies is

answer_is : (p : WordAt) (s : CoreScene) → IsUpToDate s → p.word < 4 → answer p s ≡ word_at s.memory p
answer_is p s up below =
    (λ i. unwrap_or (waiting_word (up.out i) p) (slice_index (unwrap_or (cached_words s.lines (line_of_word p)) (line_in s.memory (line_of_word p))) p.word))
    ∙ ap (λ (l : List ℕ). slice_index l p.word) (copy_or_words s (line_of_word p) (cached_words s.lines (line_of_word p)) refl up)
    ∙ word_in_line p.word (s.memory.word p.core p.line) below

-- a flush of an empty buffer
nothing_flushed : (me : ℕ) (s : CoreScene) → IsUpToDate s → (after_flushing me s).memory ≡ s.memory
nothing_flushed me s up = λ i. after_all s.memory (stores_of (up.out i))

pub call_done : (me : ℕ) (call : LoneCall) (s : CoreScene) → IsUpToDate s → IsCallOfWord call → CallDone me call s
call_done me (FlushedWrite p v) s up below =
    let memory : (scene_after_call me (FlushedWrite p v) s).memory ≡ memory_after s.memory (store_of p v)
    = (λ i. after_all (after_all s.memory (stores_of (handed_out (up.out i) (line_of_word p)))) (stores_of (Some (held_after (up.out i) p v)))) ∙ one_by s.memory p.core p.line v p.word below in
    record {
      up = record { out = refl; copies = subst (λ (m : Memory). AreCopies m (lines_with_word s.lines p v)) (sym memory) (copies_noted s.memory p v s.lines below up.copies) };
      memory = memory;
      answer = refl;
    }
call_done me (LinePut line words) s up below =
    let memory : (scene_after_call me (LinePut line words) s).memory ≡ after_all s.memory (stores_of_line (whole_line line words))
    = ap (λ (m : Memory). after_all m (stores_of_line (whole_line line words))) (nothing_flushed me s up) in
    record {
      up = record { out = refl; copies = subst (λ (m : Memory). AreCopies m (line_noted s.lines line words)) (sym memory) (copies_put line words s.memory s.lines up.copies) };
      memory = memory;
      answer = refl;
    }
call_done me (WordRead p evict) s up below =
    let read = read_done me p evict s up in
    record { up = read.up; memory = read.memory; answer = ap (λ (v : ℕ). v ∷ []) (answer_is p s up below) }
call_done me (LineGet line) s up below = record {
  up = record { out = refl; copies = copies_filled (after_flushing me s).memory [] line tt };
  memory = nothing_flushed me s up;
  answer = ap (λ (m : Memory). line_in m line) (nothing_flushed me s up);
}
call_done me Invalidation s up below = record { up = record { out = up.out; copies = tt }; memory = refl; answer = refl }

-- ---- calls, one after the other

pub record CallsDone (me : ℕ) (calls : List LoneCall) (s : CoreScene) : Type 0 where
  pub memory : (scene_after_calls me calls s).memory ≡ words_after_calls calls s.memory
  pub answers : call_answers me calls s ≡ words_answers calls s.memory

pub calls_done : (me : ℕ) (calls : List LoneCall) (s : CoreScene) → IsUpToDate s → AreCallsOfWords calls → CallsDone me calls s
calls_done me [] s up words = record { memory = refl; answers = refl }
calls_done me (call ∷ calls) s up words =
    let one = call_done me call s up words.0 in
    let rest = calls_done me calls (scene_after_call me call s) one.up words.1 in
    record {
      memory = rest.memory ∙ ap (words_after_calls calls) one.memory;
      answers = (λ i. one.answer i ++ rest.answers i) ∙ ap (λ (m : Memory). words_answer call s.memory ++ words_answers calls m) one.memory;
    }
