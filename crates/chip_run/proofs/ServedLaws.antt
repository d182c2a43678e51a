-- Lists: an entry whatever stands for the others, and sums by places.
use Rattle.std.proofs.Common.{◌≡◌, ℕ, zero, suc, ◌+◌, ◌<◌, ◌≤◌, List, [], ◌∷◌, length, set, slice_index_or, refl, sym, ap, subst, arith}
use Rattle.chip_run.specs.Crews.{sum_from}

-- the first of a list that has one
pub some_worker : {A : Type 0} (crew : List A) → 0 < length crew → A
some_worker [] some = absurd (omega (arith, some))
some_worker (w ∷ crew) some = w

-- an entry within a list is the same whatever stands for the others
pub one_entry : {A : Type 0} (l : List A) (k : ℕ) (a b : A) → k < length l → slice_index_or l k a ≡ slice_index_or l k b
one_entry [] k a b inside = absurd (omega (arith, inside))
one_entry (x ∷ l) zero a b inside = refl
one_entry (x ∷ l) (suc k) a b inside = one_entry l k a b (omega (arith, inside))

-- a sum in which one part changes
pub sum_set : {A : Type 0} (f : ℕ → A → ℕ) (from at k : ℕ) (xs : List A) (old new : A) → k ≡ from + at → at < length xs → old ≡ slice_index_or xs at old
    → sum_from f from (set xs at new) + f k old ≡ sum_from f from xs + f k new
sum_set f from at k [] old new place less is = absurd (omega (arith, less))
sum_set {A} f from zero k (x ∷ xs) old new place less is =
    let same : k ≡ from = omega (arith, place) in
    let one : f k old ≡ f from x = λ i. f (same i) (is i) in
    let two : f k new ≡ f from new = ap (λ (n : ℕ). f n new) same in
    omega (arith, one, two)
sum_set {A} f from (suc at) k (x ∷ xs) old new place less is =
    let rest = sum_set f (from + 1) at k xs old new (omega (arith, place)) (omega (arith, less)) is in
    omega (arith, rest)

-- a sum in which no part rises
pub sum_later : {A : Type 0} (f : ℕ → A → ℕ) (from : ℕ) (old now : List A) → length now ≡ length old
    → ((k : ℕ) (d : A) → k < length old → f (from + k) (slice_index_or now k d) ≤ f (from + k) (slice_index_or old k d)) → sum_from f from now ≤ sum_from f from old
sum_later f from [] [] same each = omega arith
sum_later f from [] (y ∷ now) same each = absurd (omega (arith, same))
sum_later f from (x ∷ old) [] same each = absurd (omega (arith, same))
sum_later {A} f from (x ∷ old) (y ∷ now) same each =
    let next : (k : ℕ) → (from + 1) + k ≡ from + suc k = λ k. omega arith in
    let rest = sum_later f (from + 1) old now (omega (arith, same))
    (λ k d low. subst (λ (n : ℕ). f n (slice_index_or now k d) ≤ f n (slice_index_or old k d)) (sym (next k)) (each (suc k) d (omega (arith, low)))) in
    let zeroth : from + 0 ≡ from = omega arith in
    let first = subst (λ (n : ℕ). f n y ≤ f n x) zeroth (each 0 x (omega arith)) in
    omega (arith, rest, first)
