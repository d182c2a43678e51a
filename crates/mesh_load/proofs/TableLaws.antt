-- Sums of the values of a table whose places pass a test.
use Rattle.std.proofs.Common.{◌≡◌, ℕ, zero, suc, ◌+◌, ◌<◌, ◌≤◌, Bool, true, false, cond, List, [], ◌∷◌, length, get_or, set, take, replicate, refl, sym, ap, ◌∙◌, arith, add-one, add-zero}
use Rattle.mesh_load.specs.Tables.{sum_where, total}

part-le : (b : Bool) (v : ℕ) → cond b v 0 ≤ v
part-le true v = omega arith
part-le false v = omega arith

pub get_or-le : (values : List ℕ) (i : ℕ) → get_or values i 0 ≤ total values
get_or-le [] i = omega arith
get_or-le (v ∷ values) zero = omega arith
get_or-le (v ∷ values) (suc i) = omega (arith, get_or-le values i)

split : (b : Bool) (x v r : ℕ) → cond b (x + v) 0 + r ≡ cond b x 0 + r + cond b v 0
split true x v r = omega arith
split false x v r = omega arith

-- a value to which more was added
pub chosen-set : (test : ℕ → Bool) (values : List ℕ) (i v : ℕ) → i < length values → sum_where test (set values i (get_or values i 0 + v)) ≡ sum_where test values + cond (test i) v 0
chosen-set test [] i v within = absurd (omega (arith, within))
chosen-set test (x ∷ values) zero v within = split (test 0) x v (sum_where (λ place. test (suc place)) values)
chosen-set test (x ∷ values) (suc i) v within =
    omega (arith, chosen-set (λ place. test (suc place)) values i v (omega (arith, within)))

-- one value more
pub chosen-more : (test : ℕ → Bool) (values : List ℕ) (i : ℕ) → i < length values → sum_where test (take (i + 1) values) ≡ sum_where test (take i values) + cond (test i) (get_or values i 0) 0
chosen-more test values i within =
    ap (λ (n : ℕ). sum_where test (take n values)) (add-one i) ∙ more test values i within
  where
    more : (test : ℕ → Bool) (values : List ℕ) (i : ℕ) → i < length values → sum_where test (take (suc i) values) ≡ sum_where test (take i values) + cond (test i) (get_or values i 0) 0
    more test [] i within = absurd (omega (arith, within))
    more test (x ∷ values) zero within = omega arith
    more test (x ∷ values) (suc i) within =
        omega (arith, more (λ place. test (suc place)) values i (omega (arith, within)))

-- the sum so far and the next value are within the whole
pub chosen_more_le : (test : ℕ → Bool) (values : List ℕ) (i : ℕ) → sum_where test (take i values) + get_or values i 0 ≤ total values
chosen_more_le test [] zero = omega arith
chosen_more_le test [] (suc i) = omega arith
chosen_more_le test (x ∷ values) zero = omega arith
chosen_more_le test (x ∷ values) (suc i) =
    omega (arith, part-le (test 0) x, chosen_more_le (λ place. test (suc place)) values i)

-- a sum so far, with the next value, is within the whole
pub sum_within : (test : ℕ → Bool) (values : List ℕ) (i sum : ℕ) → sum ≡ sum_where test (take i values) → sum + get_or values i 0 ≤ total values
sum_within test values i sum is =
    let bound : sum_where test (take i values) + get_or values i 0 ≤ total values = chosen_more_le test values i in
    omega (arith, is, bound)

-- a table of zeros
pub chosen-zeros : (test : ℕ → Bool) (n : ℕ) → sum_where test (replicate n 0) ≡ 0
chosen-zeros test zero = refl
chosen-zeros test (suc n) = by (test 0) (chosen-zeros (λ place. test (suc place)) n)
  where
    by : (b : Bool) {r : ℕ} → r ≡ 0 → cond b 0 0 + r ≡ 0
    by true none = omega (arith, none)
    by false none = omega (arith, none)

-- what is added to one table as another is read: sums of the one are sums of the other
pub added : (place : ℕ → ℕ) (values table : List ℕ) (i : ℕ) → i < length values → place i < length table
    → ((test : ℕ → Bool) → sum_where test table ≡ sum_where (λ k. test (place k)) (take i values))
    → (test : ℕ → Bool) → sum_where test (set table (place i) (get_or table (place i) 0 + get_or values i 0)) ≡ sum_where (λ k. test (place k)) (take (i + 1) values)
added place values table i within there so_far test =
    chosen-set test table (place i) (get_or values i 0) there
    ∙ ap (λ (n : ℕ). n + cond (test (place i)) (get_or values i 0) 0) (so_far test)
    ∙ sym (chosen-more (λ (k : ℕ). test (place k)) values i within)

-- the value to which the next one is added is within the whole with it
pub added_within : (place : ℕ → ℕ) (values table : List ℕ) (i : ℕ) → ((test : ℕ → Bool) → sum_where test table ≡ sum_where (λ k. test (place k)) (take i values))
    → get_or table (place i) 0 + get_or values i 0 ≤ total values
added_within place values table i so_far =
    let same : total table ≡ total (take i values) = so_far (λ (k : ℕ). true) in
    let here : get_or table (place i) 0 ≤ total table = get_or-le table (place i) in
    let bound : total (take i values) + get_or values i 0 ≤ total values = chosen_more_le (λ (k : ℕ). true) values i in
    omega (arith, same, here, bound)

-- a sum so far, and a value that is added to it or left out
pub taken_in : (test : ℕ → Bool) (values : List ℕ) (i : ℕ) (b : Bool) (before sum : ℕ) → i < length values → b ≡ true → b ≡ test i → sum ≡ before + get_or values i 0 → before ≡ sum_where test (take i values) → sum ≡ sum_where test (take (i + 1) values)
taken_in test values i b before sum within holds is now was =
    now ∙ ap (λ (n : ℕ). n + get_or values i 0) was
    ∙ ap (λ (p : Bool). sum_where test (take i values) + cond p (get_or values i 0) 0) (sym holds ∙ is)
    ∙ sym (chosen-more test values i within)

pub left_out : (test : ℕ → Bool) (values : List ℕ) (i : ℕ) (b : Bool) (before sum : ℕ) → i < length values → b ≡ false → b ≡ test i → sum ≡ before → before ≡ sum_where test (take i values) → sum ≡ sum_where test (take (i + 1) values)
left_out test values i b before sum within fails is now was =
    now ∙ was ∙ sym (add-zero (sum_where test (take i values)))
    ∙ ap (λ (p : Bool). sum_where test (take i values) + cond p (get_or values i 0) 0) (sym fails ∙ is)
    ∙ sym (chosen-more test values i within)
