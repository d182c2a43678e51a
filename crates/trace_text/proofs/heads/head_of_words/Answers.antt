use Rattle.std.proofs.Common.{◌≡◌, ℕ, ◌<◌, ◌≤◌, if◌then◌else◌, IfOk, Result, Ok, Err, List, [], ◌∷◌, length, get_or, map, None, refl, sym, ◌∙◌, arith, rules}
use Rattle.std.proofs.lemmas.Bool.{cond-true, cond-false}
use Rattle.trace_text.specs.Grammar.{are_head_words, head_of_words, head_values_said}
use Rattle.trace_text.proofs.heads.head_of_words.Goals as goal
use Rattle.trace_text.proofs.heads.head_of_words.Goals.{in_default-via-then-words-lt9, in_default-via-else-words-lt9+else-words-lt10}

module _ {X : Type 0} (view : X → List ℕ) where
  abbrev at : X → List X → ℕ → List ℕ
  at d ws k = view (get_or ws k d)

  -- what nine words say, by their places
  nine : (d : X) (ws : List X) → 9 ≤ length ws → length ws < 10 → head_of_words (map view ws)
      ≡ (if are_head_words (at d ws 0) (at d ws 1) (at d ws 2) (at d ws 3) (at d ws 5) (at d ws 7) then head_values_said (at d ws 4) (at d ws 6) (at d ws 8) else None)
  nine d (w0 ∷ w1 ∷ w2 ∷ w3 ∷ w4 ∷ w5 ∷ w6 ∷ w7 ∷ w8 ∷ []) least most = refl
  nine d [] least most = absurd (omega arith)
  nine d (w0 ∷ []) least most = absurd (omega arith)
  nine d (w0 ∷ w1 ∷ []) least most = absurd (omega arith)
  nine d (w0 ∷ w1 ∷ w2 ∷ []) least most = absurd (omega arith)
  nine d (w0 ∷ w1 ∷ w2 ∷ w3 ∷ []) least most = absurd (omega arith)
  nine d (w0 ∷ w1 ∷ w2 ∷ w3 ∷ w4 ∷ []) least most = absurd (omega arith)
  nine d (w0 ∷ w1 ∷ w2 ∷ w3 ∷ w4 ∷ w5 ∷ []) least most = absurd (omega arith)
  nine d (w0 ∷ w1 ∷ w2 ∷ w3 ∷ w4 ∷ w5 ∷ w6 ∷ []) least most = absurd (omega arith)
  nine d (w0 ∷ w1 ∷ w2 ∷ w3 ∷ w4 ∷ w5 ∷ w6 ∷ w7 ∷ []) least most = absurd (omega arith)
  nine d (w0 ∷ w1 ∷ w2 ∷ w3 ∷ w4 ∷ w5 ∷ w6 ∷ w7 ∷ w8 ∷ w9 ∷ ws) least most = absurd (omega arith)

  few : (ws : List X) → length ws < 9 → None ≡ head_of_words (map view ws)
  few [] most = refl
  few (w0 ∷ []) most = refl
  few (w0 ∷ w1 ∷ []) most = refl
  few (w0 ∷ w1 ∷ w2 ∷ []) most = refl
  few (w0 ∷ w1 ∷ w2 ∷ w3 ∷ []) most = refl
  few (w0 ∷ w1 ∷ w2 ∷ w3 ∷ w4 ∷ []) most = refl
  few (w0 ∷ w1 ∷ w2 ∷ w3 ∷ w4 ∷ w5 ∷ []) most = refl
  few (w0 ∷ w1 ∷ w2 ∷ w3 ∷ w4 ∷ w5 ∷ w6 ∷ []) most = refl
  few (w0 ∷ w1 ∷ w2 ∷ w3 ∷ w4 ∷ w5 ∷ w6 ∷ w7 ∷ []) most = refl
  few (w0 ∷ w1 ∷ w2 ∷ w3 ∷ w4 ∷ w5 ∷ w6 ∷ w7 ∷ w8 ∷ ws) most = absurd (omega arith)

  many : (ws : List X) → 10 ≤ length ws → None ≡ head_of_words (map view ws)
  many (w0 ∷ w1 ∷ w2 ∷ w3 ∷ w4 ∷ w5 ∷ w6 ∷ w7 ∷ w8 ∷ w9 ∷ ws) least = refl
  many [] least = absurd (omega arith)
  many (w0 ∷ []) least = absurd (omega arith)
  many (w0 ∷ w1 ∷ []) least = absurd (omega arith)
  many (w0 ∷ w1 ∷ w2 ∷ []) least = absurd (omega arith)
  many (w0 ∷ w1 ∷ w2 ∷ w3 ∷ []) least = absurd (omega arith)
  many (w0 ∷ w1 ∷ w2 ∷ w3 ∷ w4 ∷ []) least = absurd (omega arith)
  many (w0 ∷ w1 ∷ w2 ∷ w3 ∷ w4 ∷ w5 ∷ []) least = absurd (omega arith)
  many (w0 ∷ w1 ∷ w2 ∷ w3 ∷ w4 ∷ w5 ∷ w6 ∷ []) least = absurd (omega arith)
  many (w0 ∷ w1 ∷ w2 ∷ w3 ∷ w4 ∷ w5 ∷ w6 ∷ w7 ∷ []) least = absurd (omega arith)
  many (w0 ∷ w1 ∷ w2 ∷ w3 ∷ w4 ∷ w5 ∷ w6 ∷ w7 ∷ w8 ∷ []) least = absurd (omega arith)

-- what is true of a value is true of what the call gives
on_ok : {A E : Type 0} (r : Result A E) (P Q : A → Type 0) → ((x : A) → P x → Q x) → IfOk r P → IfOk r Q
on_ok (Ok x) P Q next is = next x is
on_ok (Err e) P Q next is = tt

pub returns-then-are_head_words : goal.returns-then-are_head_words
returns-then-are_head_words c =
    let same = nine (λ word. word.now) _ c.args.words.now c.in-len9.len_at_least c.in-len9.len_below in
    on_ok c.head_values_said.result _ _ (λ said is. is ∙ sym (same ∙ cond-true _ _ _ (sym c.are_head_words.ensures ∙ c.if-are_head_words.true))) c.head_values_said.ensures

pub returns-else-are_head_words : goal.returns-else-are_head_words
returns-else-are_head_words c =
    sym (nine (λ word. word.now) _ c.args.words.now c.in-len9.len_at_least c.in-len9.len_below ∙ cond-false _ _ _ (sym c.are_head_words.ensures ∙ c.if-are_head_words.false))

pub returns-in_default : goal.returns-in_default
returns-in_default c = elim c.in_default.branch [ in_default-via-then-words-lt9 w ↦ few (λ word. word.now) c.args.words.now (search rules) | in_default-via-else-words-lt9+else-words-lt10 w ↦ many (λ word. word.now) c.args.words.now (search rules) ]
