-- Functions that say something of three words alone.
use Rattle.std.proofs.Common.{◌≡◌, ℕ, ◌<◌, ◌≤◌, List, [], ◌∷◌, length, get_or, map, Option, None, refl, arith}

-- it says nothing of fewer words, nor of more
pub record SaysThree {R : Type 0} (f : List (List ℕ) → Option R) : Type 0 where
  pub none : None ≡ f []
  pub one : (a : List ℕ) → None ≡ f (a ∷ [])
  pub two : (a b : List ℕ) → None ≡ f (a ∷ b ∷ [])
  pub more : (a b c d : List ℕ) (rest : List (List ℕ)) → None ≡ f (a ∷ b ∷ c ∷ d ∷ rest)

module _ {X R : Type 0} (f : List (List ℕ) → Option R) (view : X → List ℕ) where
  -- what it says of three words, by their places
  pub of_three : (d : X) (ws : List X) → 3 ≤ length ws → length ws < 4 → f (view (get_or ws 0 d) ∷ view (get_or ws 1 d) ∷ view (get_or ws 2 d) ∷ []) ≡ f (map view ws)
  of_three d (w0 ∷ w1 ∷ w2 ∷ []) least most = refl
  of_three d [] least most = absurd (omega arith)
  of_three d (w0 ∷ []) least most = absurd (omega arith)
  of_three d (w0 ∷ w1 ∷ []) least most = absurd (omega arith)
  of_three d (w0 ∷ w1 ∷ w2 ∷ w3 ∷ ws) least most = absurd (omega arith)

  -- fewer words, and more
  pub of_few : SaysThree f → (ws : List X) → length ws < 3 → None ≡ f (map view ws)
  of_few three [] most = three.none
  of_few three (w0 ∷ []) most = three.one (view w0)
  of_few three (w0 ∷ w1 ∷ []) most = three.two (view w0) (view w1)
  of_few three (w0 ∷ w1 ∷ w2 ∷ ws) most = absurd (omega (arith, most))

  pub of_many : SaysThree f → (ws : List X) → 4 ≤ length ws → None ≡ f (map view ws)
  of_many three (w0 ∷ w1 ∷ w2 ∷ w3 ∷ ws) least = three.more (view w0) (view w1) (view w2) (view w3) (map view ws)
  of_many three [] least = absurd (omega (arith, least))
  of_many three (w0 ∷ []) least = absurd (omega (arith, least))
  of_many three (w0 ∷ w1 ∷ []) least = absurd (omega (arith, least))
  of_many three (w0 ∷ w1 ∷ w2 ∷ []) least = absurd (omega (arith, least))
