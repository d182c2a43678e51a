use Rattle.std.proofs.Common.{◌≡◌, ℕ, ◌<◌, List, [], ◌∷◌, length, map, None, refl, arith}
use Rattle.trace_text.specs.Grammar.{event_said}
use Rattle.trace_text.proofs.lines.event_said.Goals as goal

module _ {X : Type 0} (view : X → List ℕ) (nue : ℕ) where
  few : (ws : List X) → length ws < 4 → None ≡ event_said nue (map view ws)
  few [] most = refl
  few (w0 ∷ []) most = refl
  few (w0 ∷ w1 ∷ []) most = refl
  few (w0 ∷ w1 ∷ w2 ∷ []) most = refl
  few (w0 ∷ w1 ∷ w2 ∷ w3 ∷ ws) most = absurd (omega arith)

pub returns-in_default-clause-gives : goal.returns-in_default-clause-gives
returns-in_default-clause-gives c = few (λ word. word.now) c.args.nue c.args.words.now c.in_default.len_below
