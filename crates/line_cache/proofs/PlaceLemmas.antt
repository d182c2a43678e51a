-- Where a line stands, and what becomes of a cache whose lines stand first among its entries.
use Rattle.std.proofs.Common.{◌≡◌, ◌≢◌, ℕ, zero, suc, ◌+◌, ◌-◌, ◌<◌, ◌≤◌, Bool, true, false, ◌==◌, if◌then◌else◌, List, [], ◌∷◌, ◌++◌, None, Some, length, get_or, take, drop, set, refl, ap, sym, subst, ◌∙◌, arith, slice_get, slice_set, remove, IfSome}
use Rattle.std.specs.List.{copy_within}
use Rattle.std.proofs.Math.Seq.{take-set-lt}
use Rattle.std.proofs.lemmas.List.{get_or-take, length-take-le, length-drop, length-set, take_more_set, drop-take}
use Rattle.std.proofs.lemmas.List.Edits.{length-remove, take-paste}
use Rattle.std.proofs.lemmas.Grind.{get_or-set_at}
use Rattle.std.proofs.lemmas.List.{get_or-set_other}
use Rattle.std.proofs.lemmas.Bool.{eq-eqb, ne_eqb, eqb-true, and_parts, and_from}
use Rattle.scc_base.specs.Places.{LineAt, WordAt, line_of_word, same_line}
use Rattle.line_cache.specs.declared.cache.Entry.{Entry}
use Rattle.line_cache.specs.declared.cache.Mark.{Mark}
use Rattle.line_cache.specs.Lines.{cached_words, with_filled_line, lines_with_word, AreDistinct, IsCache, IsMarked, IsPlaceOf, most_lines}
use Rattle.line_cache.proofs.LineLemmas.{same_line-is, held_at, noted_none, held-push, held-noted, held-remove, cache-noted, cache-remove, cache-push}

same_line-refl : (line : LineAt) → same_line line line ≡ true
same_line-refl line = and_from (line.core == line.core) (line.line == line.line) (eq-eqb line.core line.core refl) (eq-eqb line.line line.line refl)

-- an entry among the first ones
pub first_read : (es : List Entry) (len at : ℕ) (e : Entry) → at < len → e ≡ get_or es at e → e ≡ get_or (take len es) at e
first_read es len at e low is = is ∙ sym (get_or-take len es at e low)

pub len_first : (es : List Entry) (len : ℕ) → len ≤ length es → length (take len es) ≡ len
len_first es len few = length-take-le len es few

-- the line of the entry at a place
pub line_there : (es : List Entry) (line : LineAt) (at : ℕ) (e : Entry) → at < length es → IfSome (slice_get es at) (λ x. x.line ≡ line) → e ≡ get_or es at e
    → same_line e.line line ≡ true
line_there [] line at e low there is = absurd (omega (arith, low))
line_there (x ∷ xs) line zero e low there is =
    subst (λ (l : LineAt). same_line e.line l ≡ true) (ap (λ (y : Entry). y.line) is ∙ there) (same_line-refl e.line)
line_there (x ∷ xs) line (suc at) e low there is = line_there xs line at e (omega (arith, low)) there is

-- a word that was written changes the entry where its line stands, and no other
pub noted_at : (es : List Entry) (i : ℕ) (p : WordAt) (v : ℕ) (e : Entry) → AreDistinct es → i < length es → e ≡ get_or es i e
    → same_line e.line (line_of_word p) ≡ true → set es i (record { line = e.line; words = slice_set e.words p.word v }) ≡ lines_with_word es p v
noted_at [] i p v e s low is same = absurd (omega (arith, low))
noted_at (x ∷ xs) zero p v e s low is same =
    let none : cached_words xs (line_of_word p) ≡ None = subst (λ a. cached_words xs a ≡ None) (ap (λ (y : Entry). y.line) (sym is) ∙ same_line-is e.line (line_of_word p) same) s.0 in
    rw (← is, same, noted_none xs p v none) refl
noted_at (x ∷ xs) (suc i) p v e s low is same = by (noted_at xs i p v e s.1 (omega (arith, low)) is same) (same_line x.line (line_of_word p)) refl
  where
    by : set xs i (record { line = e.line; words = slice_set e.words p.word v }) ≡ lines_with_word xs p v → (q : Bool) → same_line x.line (line_of_word p) ≡ q → set (x ∷ xs) (suc i) (record { line = e.line; words = slice_set e.words p.word v }) ≡ lines_with_word (x ∷ xs) p v
    by rest true q =
        let none : cached_words xs (line_of_word p) ≡ None = subst (λ a. cached_words xs a ≡ None) (same_line-is x.line (line_of_word p) q) s.0 in
        let some = held_at xs i (line_of_word p) e s.1 (omega (arith, low)) is same in
        absurd (cc (none, some))
    by rest false q = rw (q, ← rest) refl

-- ---- a line that was found among the first entries

module _ (es : List Entry) (len at : ℕ) (line : LineAt) (e : Entry) (cache : IsCache (take len es)) (few : len ≤ length es)
    (place : IsPlaceOf (take len es) line (Some at)) (is : e ≡ get_or es at e) where
  -- the entry at its place
  abbrev here : Entry
  here = get_or es at e

  low : at < len
  low = let first = len_first es len few in let lt : at < length (take len es) = place.1 in omega (arith, first, lt)

  read : here ≡ get_or (take len es) at here
  read = first_read es len at here low (ap (λ x. get_or es at x) is)

  same : same_line here.line line ≡ true
  same = line_there (take len es) line at here place.1 place.0 read

  pub words_there : Some here.words ≡ cached_words (take len es) line
  words_there = held_at (take len es) at line here cache.distinct place.1 read same

  pub word_noted : (p : WordAt) (k v : ℕ) → line_of_word p ≡ line → k ≡ p.word
      → take len (set es at (record { line = here.line; words = slice_set here.words k v })) ≡ lines_with_word (take len es) p v
  word_noted p k v on word =
      ap (λ j. take len (set es at (record { line = here.line; words = slice_set here.words j v }))) word
      ∙ take-set-lt len es at _ low
      ∙ noted_at (take len es) at p v here cache.distinct place.1 read (subst (λ (l : LineAt). same_line here.line l ≡ true) (sym on) same)

-- ---- a cache whose lines stand first

-- what stands there now is what stood there, but for a word that was written
pub marked_noted : (es ws : List Entry) (len : ℕ) (marks : List Mark) (pass : ℕ) (p : WordAt) (v : ℕ) → length ws ≡ length es → take len ws ≡ lines_with_word (take len es) p v
    → IsMarked es len marks pass → IsMarked ws len marks pass
marked_noted es ws len marks pass p v size now s = record {
  cache = subst (λ x. IsCache x) (sym now) (cache-noted (take len es) p v s.cache);
  few = let few = s.few in omega (arith, few, size);
  unmarked = λ line mark is other. subst (λ x. cached_words x line ≡ None) (sym now) (held-noted (take len es) p v line (s.unmarked line mark is other));
}

take_less : (i n : ℕ) (xs : List Entry) → i ≤ n → take i (take n xs) ≡ take i xs
take_less zero n xs h = refl
take_less (suc i) zero xs h = absurd (omega (arith, h))
take_less (suc i) (suc n) [] h = refl
take_less (suc i) (suc n) (x ∷ xs) h = ap (λ l. x ∷ l) (take_less i n xs (omega (arith, h)))

-- the entries behind one moved to its place
pub shifted : (es : List Entry) (len at : ℕ) → at < len → len ≤ length es
    → take (len - 1) (copy_within es (at + 1) len at) ≡ remove (take len es) at
shifted es len at low few =
    let n = len - (at + 1) in
    let sum : at + n ≡ len - 1 = omega (arith, low) in
    let all : at + 1 + n ≡ len = omega (arith, low) in
    let next : at + 1 ≡ suc at = omega arith in
    let there = length-drop (at + 1) es in
    ap (λ k. take k (copy_within es (at + 1) len at)) (sym sum)
    ∙ take-paste es at (drop (at + 1) es) n (omega (arith, low, few)) (omega (arith, low, few, there))
    ∙ (λ k. sym (take_less at len es (omega (arith, low))) k ++ (sym (drop-take (at + 1) n es) ∙ ap (λ m. drop (at + 1) (take m es)) all ∙ ap (λ m. drop m (take len es)) next) k)

pub marked_removed : (es ws : List Entry) (len at : ℕ) (marks : List Mark) (pass : ℕ) → length ws ≡ length es → take (len - 1) ws ≡ remove (take len es) at
    → IsMarked es len marks pass → IsMarked ws (len - 1) marks pass
marked_removed es ws len at marks pass size now s = record {
  cache = subst (λ x. IsCache x) (sym now) (cache-remove (take len es) at s.cache);
  few = let few = s.few in omega (arith, few, size);
  unmarked = λ line mark is other. subst (λ x. cached_words x line ≡ None) (sym now) (held-remove (take len es) at line (s.unmarked line mark is other));
}

-- a line that is brought in has the mark of this pass then, and every other number the mark that it had
pub marked_filled : (es : List Entry) (len : ℕ) (marks : List Mark) (pass k : ℕ) (e : Entry) (m : Mark) → len < most_lines → len < length es
    → k < length marks → k ≡ e.line.line → m.pass ≡ pass → IsMarked es len marks pass → cached_words (take len es) e.line ≡ None
    → IsMarked (set es len e) (len + 1) (set marks k m) pass
marked_filled es len marks pass k e m room low few at same s h = record {
  cache = subst (λ x. IsCache x) (sym now) (cache-push (take len es) e (omega (arith, room, first)) s.cache h);
  few = let size = length-set es len e in omega (arith, low, size);
  unmarked = λ line mark is other. subst (λ x. cached_words x line ≡ None) (sym now) (by line mark is other (k == line.line) refl);
}
  where
    now : take (len + 1) (set es len e) ≡ take len es ++ e ∷ []
    now = take_more_set es len e low

    first : length (take len es) ≡ len
    first = length-take-le len es (omega (arith, low))

    by : (line : LineAt) (mark : Mark) → mark ≡ get_or (set marks k m) line.line mark → (mark.pass == pass) ≡ false → (t : Bool) → (k == line.line) ≡ t
        → cached_words (take len es ++ e ∷ []) line ≡ None
    by line mark is other true q =
        let there : mark ≡ m = is ∙ get_or-set_at marks k line.line m mark (sym (eqb-true k line.line q)) few in
        let now : (mark.pass == pass) ≡ true = eq-eqb mark.pass pass (ap (λ (x : Mark). x.pass) there ∙ same) in
        absurd (cc (now, other))
    by line mark is other false q =
        let apart : line.line ≢ k = λ e. absurd (cc (eq-eqb k line.line (sym e), q)) in
        held-push (take len es) e line (s.unmarked line mark (is ∙ get_or-set_other marks k line.line m mark apart) other) (elsewhere (same_line e.line line) refl)
      where
        elsewhere : (t : Bool) → same_line e.line line ≡ t → same_line e.line line ≡ false
        elsewhere true t = let parts = and_parts (e.line.core == line.core) (e.line.line == line.line) t in absurd (cc (parts.1, q, at))
        elsewhere false f = f

-- the lines after one was brought in behind them: the cache was full and its first line was dropped, or it was not full
module _ (es was : List Entry) (len : ℕ) (e : Entry) (low : len < length es) where
  filled : (b : Bool) → take len es ≡ (if b then drop 1 was else was) → (length was == most_lines) ≡ b
      → take (len + 1) (set es len e) ≡ with_filled_line was e.line e.words
  filled b now full =
      take_more_set es len e low ∙ ap (λ (xs : List Entry). xs ++ e ∷ []) (now ∙ ap (λ (a : Bool). if a then drop 1 was else was) (sym full))

  pub filled_full : take len es ≡ remove was 0 → length was ≡ most_lines → take (len + 1) (set es len e) ≡ with_filled_line was e.line e.words
  filled_full now full = filled true now (eq-eqb (length was) most_lines full)

  pub filled_more : take len es ≡ was → length was ≢ most_lines → take (len + 1) (set es len e) ≡ with_filled_line was e.line e.words
  filled_more now more = filled false now (ne_eqb (length was) most_lines more)

-- and there was room for it
module _ (es was : List Entry) (len : ℕ) (few : len ≤ length es) where
  pub room_full : take len es ≡ remove was 0 → length was ≡ most_lines → len < most_lines
  room_full now full =
      let first = len_first es len few in
      let less = length-remove was 0 (omega (arith, full)) in
      let same = ap length now in
      omega (arith, first, less, same, full)

  pub room_more : take len es ≡ was → length was ≤ most_lines → length was ≢ most_lines → len < most_lines
  room_more now most more =
      let first = len_first es len few in
      let same = ap length now in
      omega (arith, first, same, most, more)
