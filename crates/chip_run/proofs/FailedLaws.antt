-- The fewest failed turns in a row of some members.
use Rattle.std.proofs.Common.{◌≡◌, ℕ, zero, suc, ◌<◌, ◌≤◌, min, drop, List, [], ◌∷◌, length, slice_index_or, refl, sym, subst, arith}
use Rattle.chip_run.specs.Marks.{least_failed}
use Rattle.chip_run.specs.declared.members.Member.{Member}

module _ {A : Type 0} where
  pub least_within : (members : List (Member A)) → least_failed members ≤ 1000
  least_within [] = omega arith
  least_within (m ∷ members) = let rest = least_within members in omega (arith, rest)

  -- one more is looked at
  least_on : (k : ℕ) (members : List (Member A)) (d : Member A) → k < length members
      → least_failed (drop k members) ≡ min (slice_index_or members k d).failed (least_failed (drop (suc k) members))
  least_on k [] d inside = absurd (omega (arith, inside))
  least_on zero (m ∷ members) d inside = refl
  least_on (suc k) (m ∷ members) d inside = least_on k members d (omega (arith, inside))

  pub least_next : (k next : ℕ) (members : List (Member A)) (d : Member A) → next ≡ suc k → k < length members
      → least_failed (drop k members) ≡ min (slice_index_or members k d).failed (least_failed (drop next members))
  least_next k next members d is inside =
      subst (λ (n : ℕ). least_failed (drop k members) ≡ min (slice_index_or members k d).failed (least_failed (drop n members))) (sym is) (least_on k members d inside)

  -- none is left
  pub least_over : (k : ℕ) (members : List (Member A)) → length members ≤ k → least_failed (drop k members) ≡ 1000
  least_over zero [] all = refl
  least_over (suc k) [] all = refl
  least_over zero (m ∷ members) all = absurd (omega (arith, all))
  least_over (suc k) (m ∷ members) all = least_over k members (omega (arith, all))
