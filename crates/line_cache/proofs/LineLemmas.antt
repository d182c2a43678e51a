-- Lists of entries: looking a line up, and that no line is held twice.
use Rattle.std.proofs.Common.{◌≡◌, ℕ, zero, suc, ◌<◌, Bool, true, false, cond, ◌==◌, List, [], ◌∷◌, ◌++◌, None, Some, length, get_or, refl, ap, sym, subst, ◌∙◌, arith, slice_index, slice_set, remove, length-append, length-drop}
use Rattle.std.proofs.lemmas.List.{length-take}
use Rattle.std.proofs.lemmas.Bool.{cond_both, eq-eqb, eqb-true, and_parts, and_from}
use Rattle.scc_base.specs.Places.{LineAt, WordAt, line_of_word, word_of_line, same_line}
use Rattle.line_cache.specs.declared.cache.Entry.{Entry}
use Rattle.line_cache.specs.Lines.{cached_words, entry_with_word, lines_with_word, line_noted, AreDistinct, IsCache, most_lines}

same_line-sym : (a b : LineAt) → same_line a b ≡ true → same_line b a ≡ true
same_line-sym a b t =
    let p = and_parts (a.core == b.core) (a.line == b.line) t in
    and_from (b.core == a.core) (b.line == a.line) (eq-eqb b.core a.core (sym (eqb-true a.core b.core p.0)))
    (eq-eqb b.line a.line (sym (eqb-true a.line b.line p.1)))

pub same_line-is : (a b : LineAt) → same_line a b ≡ true → a ≡ b
same_line-is a b t =
    let p = and_parts (a.core == b.core) (a.line == b.line) t in
    let cores : a.core ≡ b.core = eqb-true a.core b.core p.0 in
    let lines : a.line ≡ b.line = eqb-true a.line b.line p.1 in
    λ i. record { core = cores i; line = lines i }

pub other_line-sym : (a b : LineAt) → same_line a b ≡ false → same_line b a ≡ false
other_line-sym a b f = by (same_line b a) refl
  where
    by : (t : Bool) → same_line b a ≡ t → same_line b a ≡ false
    by true e = let q = same_line-sym b a e in absurd (cc)
    by false e = e

-- a line that is not held is not the first entry's, and is not held behind it
pub not_held : (e : Entry) (es : List Entry) (line : LineAt) → cached_words (e ∷ es) line ≡ None
    → (same_line e.line line ≡ false) × (cached_words es line ≡ None)
not_held e es line h = by (same_line e.line line) refl h
  where
    by : (t : Bool) → same_line e.line line ≡ t → cond t (Some e.words) (cached_words es line) ≡ None
        → (same_line e.line line ≡ false) × (cached_words es line ≡ None)
    by true q h = absurd (cc)
    by false q h = (q, h)

none_held : (e : Entry) (es : List Entry) (line : LineAt) → same_line e.line line ≡ false → cached_words es line ≡ None → cached_words (e ∷ es) line ≡ None
none_held e es line f h = rw f h

-- the words of a line that stands at a place are those that are held of it, since no line is held twice
pub held_at : (es : List Entry) (i : ℕ) (line : LineAt) (e : Entry) → AreDistinct es → i < length es → e ≡ get_or es i e
    → same_line e.line line ≡ true → Some e.words ≡ cached_words es line
held_at [] i line e s h is t = elim h [ ]
held_at (x ∷ xs) zero line e s h is t = rw (← is, t) refl
held_at (x ∷ xs) (suc i) line e s h is t = by (held_at xs i line e s.1 (omega arith) is t) (same_line x.line line) refl
  where
    by : Some e.words ≡ cached_words xs line → (q : Bool) → same_line x.line line ≡ q → Some e.words ≡ cached_words (x ∷ xs) line
    by afterwards true q =
        let none : cached_words xs line ≡ None = subst (λ a. cached_words xs a ≡ None) (same_line-is x.line line q) s.0 in
        absurd (cc)
    by afterwards false q = rw q afterwards

pub held-push : (es : List Entry) (e : Entry) (line : LineAt) → cached_words es line ≡ None → same_line e.line line ≡ false
    → cached_words (es ++ e ∷ []) line ≡ None
held-push [] e line h f = rw f refl
held-push (x ∷ xs) e line h f =
    let n = not_held x xs line h in
    none_held x (xs ++ e ∷ []) line n.0 (held-push xs e line n.1 f)

distinct-push : (es : List Entry) (e : Entry) → AreDistinct es → cached_words es e.line ≡ None → AreDistinct (es ++ e ∷ [])
distinct-push [] e s h = (refl, tt)
distinct-push (x ∷ xs) e s h =
    let n = not_held x xs e.line h in
    (held-push xs e x.line s.0 (other_line-sym x.line e.line n.0), distinct-push xs e s.1 n.1)

pub held-remove : (es : List Entry) (i : ℕ) (line : LineAt) → cached_words es line ≡ None → cached_words (remove es i) line ≡ None
held-remove [] zero line h = refl
held-remove [] (suc i) line h = refl
held-remove (x ∷ xs) zero line h = (not_held x xs line h).1
held-remove (x ∷ xs) (suc i) line h =
    let n = not_held x xs line h in
    none_held x (remove xs i) line n.0 (held-remove xs i line n.1)

distinct-remove : (es : List Entry) (i : ℕ) → AreDistinct es → AreDistinct (remove es i)
distinct-remove [] zero s = tt
distinct-remove [] (suc i) s = tt
distinct-remove (x ∷ xs) zero s = s.1
distinct-remove (x ∷ xs) (suc i) s = (held-remove xs i x.line s.0, distinct-remove xs i s.1)

written_line : (e : Entry) (p : WordAt) (v : ℕ) → (entry_with_word e p v).line ≡ e.line
written_line e p v =
    cond_both (same_line e.line (line_of_word p)) (record { line = e.line; words = slice_set e.words p.word v }) e (λ x. x.line ≡ e.line)
    (λ t. refl) (λ f. refl)

pub held-noted : (es : List Entry) (p : WordAt) (v : ℕ) (line : LineAt) → cached_words es line ≡ None → cached_words (lines_with_word es p v) line ≡ None
held-noted [] p v line h = refl
held-noted (x ∷ xs) p v line h =
    let n = not_held x xs line h in
    none_held (entry_with_word x p v) (lines_with_word xs p v) line (ap (λ a. same_line a line) (written_line x p v) ∙ n.0) (held-noted xs p v line n.1)

distinct-noted : (es : List Entry) (p : WordAt) (v : ℕ) → AreDistinct es → AreDistinct (lines_with_word es p v)
distinct-noted [] p v s = tt
distinct-noted (x ∷ xs) p v s =
    (subst (λ a. cached_words (lines_with_word xs p v) a ≡ None) (sym (written_line x p v)) (held-noted xs p v x.line s.0), distinct-noted xs p v s.1)

-- a word of a line that is not held changes nothing
pub noted_none : (es : List Entry) (p : WordAt) (v : ℕ) → cached_words es (line_of_word p) ≡ None → lines_with_word es p v ≡ es
noted_none [] p v h = refl
noted_none (x ∷ xs) p v h =
    let n = not_held x xs (line_of_word p) h in
    rw (n.0, noted_none xs p v n.1) refl

-- nor do the words of a line that is not held
pub line_none : (es : List Entry) (line : LineAt) (words : List ℕ) → cached_words es line ≡ None → line_noted es line words ≡ es
line_none es line words h =
    let word : (k v : ℕ) → lines_with_word es (word_of_line line k) v ≡ es = λ k v. noted_none es (word_of_line line k) v h in
    rw (word 0 (slice_index words 0), word 1 (slice_index words 1), word 2 (slice_index words 2)) (word 3 (slice_index words 3))

length-noted : (es : List Entry) (p : WordAt) (v : ℕ) → length (lines_with_word es p v) ≡ length es
length-noted [] p v = refl
length-noted (x ∷ xs) p v = ap suc (length-noted xs p v)

pub cache-noted : (es : List Entry) (p : WordAt) (v : ℕ) → IsCache es → IsCache (lines_with_word es p v)
cache-noted es p v s = record { distinct = distinct-noted es p v s.distinct; few = rw (length-noted es p v) s.few }

pub cache-remove : (es : List Entry) (i : ℕ) → IsCache es → IsCache (remove es i)
cache-remove es i s =
    let few = s.few in
    record {
      distinct = distinct-remove es i s.distinct;
      few = simp length-append (omega (arith, length-take i es, length-drop (suc i) es));
    }

pub cache-push : (es : List Entry) (e : Entry) → length es < most_lines → IsCache es → cached_words es e.line ≡ None → IsCache (es ++ e ∷ [])
cache-push es e room s h = record {
  distinct = distinct-push es e s.distinct h;
  few = simp length-append (omega arith);
}
