-- A fact of each entry of a cache: what fills, drops and writes leave of it.
use Rattle.std.proofs.Common.{◌≡◌, ℕ, zero, suc, Bool, true, false, cond, ◌==◌, List, [], ◌∷◌, ◌++◌, None, Some, length, drop, remove, refl, sym, subst}
use Rattle.std.proofs.lemmas.Bool.{cond_both, and_parts, and_from, eqb-true, eq-eqb}
use Rattle.scc_base.specs.Places.{LineAt, same_line}
use Rattle.line_cache.specs.declared.cache.Entry.{Entry}
use Rattle.line_cache.specs.Lines.{cached_words, with_filled_line, most_lines}
use Rattle.line_cache.proofs.LineLemmas.{not_held, held-remove}
use Rattle.put_get.specs.Cores.{Private, Fills, Kept, Dropped}

-- each entry is such
abbrev pub EachEntry : (LineAt → List ℕ → Type 0) → List Entry → Type 0
EachEntry P [] = Unit {0}
EachEntry P (e ∷ es) = P e.line e.words × EachEntry P es

pub same_line-true : (a b : LineAt) → same_line a b ≡ true → a ≡ b
same_line-true a b t =
    let p = and_parts (a.core == b.core) (a.line == b.line) t in
    let c : a.core ≡ b.core = eqb-true a.core b.core p.0 in
    let l : a.line ≡ b.line = eqb-true a.line b.line p.1 in
    λ i. record { core = c i; line = l i }

same_line-refl : (a : LineAt) → same_line a a ≡ true
same_line-refl a = and_from (a.core == a.core) (a.line == a.line) (eq-eqb a.core a.core refl) (eq-eqb a.line a.line refl)

-- the words that are held of a line are such
pub each_held : (P : LineAt → List ℕ → Type 0) (es : List Entry) (line : LineAt) (words : List ℕ) → EachEntry P es
    → cached_words es line ≡ Some words → P line words
each_held P [] line words s h = absurd (cc)
each_held P (e ∷ es) line words s h = by (each_held P es line words s.1) (same_line e.line line) refl h
  where
    by : (cached_words es line ≡ Some words → P line words) → (t : Bool) → same_line e.line line ≡ t
        → cond t (Some e.words) (cached_words es line) ≡ Some words → P line words
    by later true t h =
        let w : e.words ≡ words = cc in
        subst (λ ws. P line ws) w (subst (λ l. P l e.words) (same_line-true e.line line t) s.0)
    by later false t h = later h

pub each-append : (P : LineAt → List ℕ → Type 0) (es fs : List Entry) → EachEntry P es → EachEntry P fs → EachEntry P (es ++ fs)
each-append P [] fs a b = b
each-append P (e ∷ es) fs a b = (a.0, each-append P es fs a.1 b)

pub each-remove : (P : LineAt → List ℕ → Type 0) (es : List Entry) (i : ℕ) → EachEntry P es → EachEntry P (remove es i)
each-remove P [] zero a = tt
each-remove P [] (suc i) a = tt
each-remove P (e ∷ es) zero a = a.1
each-remove P (e ∷ es) (suc i) a = (a.0, each-remove P es i a.1)

pub each-filled : (P : LineAt → List ℕ → Type 0) (es : List Entry) (line : LineAt) (words : List ℕ) → EachEntry P es → P line words
    → EachEntry P (with_filled_line es line words)
each-filled P es line words a p =
    each-append P (cond (length es == most_lines) (drop 1 es) es) ((record { line = line; words = words }) ∷ [])
    (cond_both (length es == most_lines) (drop 1 es) es (EachEntry P) (λ t. each-remove P es 0 a) (λ f. a)) (p, tt)

-- after a fill, whatever was evicted
pub each_fills : (P : LineAt → List ℕ → Type 0) {c d : Private} {line : LineAt} {words : List ℕ} → Fills c line words d
    → EachEntry P c.lines → P line words → EachEntry P d.lines
each_fills P {c} {d} {line} {words} (Kept given e) a p =
    subst (λ (x : Private). EachEntry P x.lines) (sym e) (each-filled P c.lines line words a p)
each_fills P {c} {d} {line} {words} (Dropped at h given e) a p =
    subst (λ (x : Private). EachEntry P x.lines) (sym e) (each-remove P (with_filled_line c.lines line words) at (each-filled P c.lines line words a p))

pub each_weaker : (P Q : LineAt → List ℕ → Type 0) (es : List Entry) → ((line : LineAt) (words : List ℕ) → P line words → Q line words)
    → EachEntry P es → EachEntry Q es
each_weaker P Q [] f a = tt
each_weaker P Q (e ∷ es) f a = (f e.line e.words a.0, each_weaker P Q es f a.1)

held-push : (es : List Entry) (line : LineAt) (words : List ℕ) → cached_words es line ≡ None
    → cached_words (es ++ (record { line = line; words = words }) ∷ []) line ≡ Some words
held-push [] line words h = rw (same_line-refl line) refl
held-push (x ∷ xs) line words h =
    let n = not_held x xs line h in
    let f = n.0 in
    rw f (held-push xs line words n.1)

-- a line that was not held stands after it came in
pub held-filled : (es : List Entry) (line : LineAt) (words : List ℕ) → cached_words es line ≡ None → cached_words (with_filled_line es line words) line ≡ Some words
held-filled es line words h =
    cond_both (length es == most_lines) (drop 1 es) es (λ fs. cached_words (fs ++ (record { line = line; words = words }) ∷ []) line ≡ Some words)
    (λ t. held-push (drop 1 es) line words (held-remove es 0 line h)) (λ f. held-push es line words h)
