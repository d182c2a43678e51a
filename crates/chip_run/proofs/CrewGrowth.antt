-- A crew that grows by one worker after the other.
use Rattle.std.proofs.Common.{◌≡◌, ◌⊎◌, inl, inr, ℕ, ◌+◌, ◌<◌, List, [], ◌∷◌, ◌++◌, length, slice_index_or, sym, ◌∙◌, subst, arith}
use Rattle.std.proofs.Math.Nat.{eq-or-lt_of_le}
use Rattle.std.proofs.lemmas.List.{get_or_append_left, get_or_push}

-- what is true of each of the first n, by its rank, and of one more
pub each_more : {A : Type 0} (is : ℕ → A → Type 0) (n : ℕ) (crew : List A) (more : A) → length crew ≡ n → ((rank : ℕ) (d : A) → rank < n → is rank (slice_index_or crew rank d)) → is n more
    → (rank : ℕ) (d : A) → rank < n + 1 → is rank (slice_index_or (crew ++ more ∷ []) rank d)
each_more {A} is n crew more count each last rank d below = by (eq-or-lt_of_le (omega (arith, below)))
  where
    by : (rank ≡ n) ⊎ (rank < n) → is rank (slice_index_or (crew ++ more ∷ []) rank d)
    by (inl same) =
        let here : slice_index_or (crew ++ more ∷ []) rank d ≡ more = get_or_push crew more d rank (count ∙ sym same) in
        subst (is rank) (sym here) (subst (λ (r : ℕ). is r more) (sym same) last)
    by (inr earlier) =
        let there : slice_index_or (crew ++ more ∷ []) rank d ≡ slice_index_or crew rank d = get_or_append_left crew (more ∷ []) d rank (omega (arith, count, earlier)) in
        subst (is rank) (sym there) (each rank d earlier)
