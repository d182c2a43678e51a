use Rattle.std.proofs.Common.{◌≡◌, ℕ, ◌<◌, ◌≤◌, List, [], ◌∷◌, length, get_or, map, None, refl, ◌∙◌, arith, rules}
use Rattle.trace_text.specs.Words.{register_place_said}
use Rattle.trace_text.proofs.words.register_place_said.Goals as goal
use Rattle.trace_text.proofs.words.register_place_said.Goals.{in_default-via-then-parts-lt2, in_default-via-else-parts-lt2+else-parts-lt3}

module _ {X : Type 0} (view : X → List ℕ) where
  two : (d : X) (ws : List X) → 2 ≤ length ws → length ws < 3 → register_place_said (view (get_or ws 0 d) ∷ view (get_or ws 1 d) ∷ []) ≡ register_place_said (map view ws)
  two d (w0 ∷ w1 ∷ []) least most = refl
  two d [] least most = absurd (omega arith)
  two d (w0 ∷ []) least most = absurd (omega arith)
  two d (w0 ∷ w1 ∷ w2 ∷ ws) least most = absurd (omega arith)

  few : (ws : List X) → length ws < 2 → None ≡ register_place_said (map view ws)
  few [] most = refl
  few (w0 ∷ []) most = refl
  few (w0 ∷ w1 ∷ ws) most = absurd (omega arith)

  many : (ws : List X) → 3 ≤ length ws → None ≡ register_place_said (map view ws)
  many (w0 ∷ w1 ∷ w2 ∷ ws) least = refl
  many [] least = absurd (omega arith)
  many (w0 ∷ []) least = absurd (omega arith)
  many (w0 ∷ w1 ∷ []) least = absurd (omega arith)

pub returns-in-len2 : goal.returns-in-len2
returns-in-len2 c = c.register_of.ensures ∙ two (λ part. part.now) _ c.args.parts.now c.in-len2.len_at_least c.in-len2.len_below

pub returns-in_default : goal.returns-in_default
returns-in_default c = elim c.in_default.branch [ in_default-via-then-parts-lt2 w ↦ few (λ word. word.now) c.args.parts.now (search rules) | in_default-via-else-parts-lt2+else-parts-lt3 w ↦ many (λ word. word.now) c.args.parts.now (search rules) ]
