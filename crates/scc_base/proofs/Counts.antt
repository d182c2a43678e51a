-- Counts, lists and the lowest of the numbers below a bound that pass a test.
use Rattle.std.proofs.Common.{◌≡◌, refl, sym, subst, ◌∙◌, ap, ℕ, zero, suc, ◌+◌, ◌<◌, ◌≤◌, Bool, true, false, List, [], ◌∷◌, ◌++◌, length, arith, length-append}
use Rattle.std.specs.Prelude.{if◌then◌else◌, slice_get, Some, None}
use Rattle.std.proofs.lemmas.Bool.{cases_lt}
use Rattle.std.proofs.lemmas.Option.{slice_get_past}
use Rattle.std.proofs.Math.Logic.{⊎_elim}
use Rattle.scc_base.specs.Groups.{count_below, list_below, lowest_upto}

-- one more number counts at most once
count_step : (test : ℕ → Bool) (n : ℕ) (b : Bool) → test n ≡ b → count_below test (suc n) ≡ count_below test n + (if b then 1 else 0)
count_step test n b e = ap (λ (x : Bool). count_below test n + (if x then 1 else 0)) e

pub count_next : (test : ℕ → Bool) (n : ℕ) → test n ≡ true → count_below test (suc n) ≡ count_below test n + 1
count_next test n e = count_step test n true e

pub count_past : (test : ℕ → Bool) (n : ℕ) → test n ≡ false → count_below test (suc n) ≡ count_below test n
count_past test n e = let h = count_step test n false e in omega (arith, h)

rise : (test : ℕ → Bool) (n : ℕ) (b : Bool) → test n ≡ b → count_below test n ≤ count_below test (suc n)
rise test n true e = let h = count_next test n e in omega (arith, h)
rise test n false e = let h = count_past test n e in omega (arith, h)

-- below more numbers there are no fewer
pub count_grows : (test : ℕ → Bool) (n m : ℕ) → n ≤ m → count_below test n ≤ count_below test m
count_grows test n zero h = let e : n ≡ 0 = omega arith in rw e (omega arith)
count_grows test n (suc m) h = ⊎_elim
    (λ (low : m < n). let e : n ≡ suc m = omega arith in rw e (omega arith))
    (λ (high : n ≤ m).
    let before : count_below test n ≤ count_below test m = count_grows test n m high in
    let up : count_below test m ≤ count_below test (suc m) = rise test m (test m) refl in
    omega (arith, before, up))
    (cases_lt m n)

-- a number that passes is counted below every greater one
pub count_less : (test : ℕ → Bool) (x m : ℕ) → test x ≡ true → x < m → count_below test x < count_below test m
count_less test x m e h =
    let one = count_next test x e in
    let rest : count_below test (suc x) ≤ count_below test m = count_grows test (suc x) m h in
    omega (arith, one, rest)

-- tests that agree below a bound count the same
pub count_same : (test other : ℕ → Bool) (n : ℕ) → ((x : ℕ) → x < n → test x ≡ other x) → count_below test n ≡ count_below other n
count_same test other zero each = refl
count_same test other (suc n) each =
    let before : count_below test n ≡ count_below other n = count_same test other n (λ x h. each x (omega (arith, h))) in
    let here : test n ≡ other n = each n (omega arith) in
    let now = count_step test n (other n) here in
    now ∙ ap (λ (k : ℕ). k + (if other n then 1 else 0)) before

-- where nothing passes, nothing is counted
pub count_none : (test : ℕ → Bool) (n : ℕ) → ((x : ℕ) → x < n → test x ≡ false) → count_below test n ≡ 0
count_none test zero each = refl
count_none test (suc n) each =
    let before : count_below test n ≡ 0 = count_none test n (λ x h. each x (omega (arith, h))) in
    let here = count_past test n (each n (omega arith)) in
    omega (arith, before, here)

-- for each number below the count one passes that has so many before it
found_at : (test : ℕ → Bool) (n i : ℕ) (b : Bool) → test n ≡ b → i < count_below test (suc n)
    → (i < count_below test n → (x : ℕ) × (x < n) × (test x ≡ true) × (count_below test x ≡ i))
    → (x : ℕ) × (x < suc n) × (test x ≡ true) × (count_below test x ≡ i)
found_at test n i true e h before = ⊎_elim
    (λ (low : i < count_below test n). let y = before low in let lt = y.1 in (y.0, omega (arith, lt), y.2, y.3))
    (λ (high : count_below test n ≤ i). let one = count_next test n e in (n, omega arith, e, omega (arith, one, h, high)))
    (cases_lt i (count_below test n))
found_at test n i false e h before =
    let same = count_past test n e in
    let y = before (omega (arith, same, h)) in let lt = y.1 in (y.0, omega (arith, lt), y.2, y.3)

pub count_found : (test : ℕ → Bool) (n i : ℕ) → i < count_below test n → (x : ℕ) × (x < n) × (test x ≡ true) × (count_below test x ≡ i)
count_found test zero i h = absurd (omega (arith, h))
count_found test (suc n) i h = found_at test n i (test n) refl h (count_found test n i)

-- the list has as many numbers as are counted
list_step : (test : ℕ → Bool) (n : ℕ) (b : Bool) → test n ≡ b → list_below test (suc n) ≡ (if b then list_below test n ++ n ∷ [] else list_below test n)
list_step test n b e = ap (λ (x : Bool). if x then list_below test n ++ n ∷ [] else list_below test n) e

length_step : (test : ℕ → Bool) (n : ℕ) (b : Bool) → test n ≡ b → length (list_below test n) ≡ count_below test n → length (list_below test (suc n)) ≡ count_below test (suc n)
length_step test n true e before =
    let one = count_next test n e in
    let long = length-append (list_below test n) (n ∷ []) in
    rw (list_step test n true e) (omega (arith, one, long, before))
length_step test n false e before =
    let same = count_past test n e in rw (list_step test n false e) (omega (arith, same, before))

pub list_length : (test : ℕ → Bool) (n : ℕ) → length (list_below test n) ≡ count_below test n
list_length test zero = refl
list_length test (suc n) = length_step test n (test n) refl (list_length test n)

-- an entry stays where it is when the list grows, and the new one is at the old length
pub get-append : (xs ys : List ℕ) (i x : ℕ) → slice_get xs i ≡ Some x → slice_get (xs ++ ys) i ≡ Some x
get-append [] ys i x h = absurd (cc h)
get-append (y ∷ xs) ys zero x h = h
get-append (y ∷ xs) ys (suc i) x h = get-append xs ys i x h

pub get-last : (xs : List ℕ) (x : ℕ) → slice_get (xs ++ x ∷ []) (length xs) ≡ Some x
get-last [] x = refl
get-last (y ∷ xs) x = get-last xs x

get_step : (test : ℕ → Bool) (n x : ℕ) (b : Bool) → test n ≡ b → test x ≡ true → x < suc n
    → (x < n → slice_get (list_below test n) (count_below test x) ≡ Some x)
    → slice_get (list_below test (suc n)) (count_below test x) ≡ Some x
get_step test n x true e pass h before = ⊎_elim
    (λ (low : x < n). rw (list_step test n true e) (get-append (list_below test n) (n ∷ []) (count_below test x) x (before low)))
    (λ (high : n ≤ x).
    let is : x ≡ n = omega (arith, high, h) in
    rw (is, list_step test n true e, ← list_length test n) (get-last (list_below test n) n))
    (cases_lt x n)
get_step test n x false e pass h before = ⊎_elim
    (λ (low : x < n). rw (list_step test n false e) (before low))
    (λ (high : n ≤ x). let is : x ≡ n = omega (arith, high, h) in absurd (cc (subst (λ (k : ℕ). test k ≡ true) is pass, e)))
    (cases_lt x n)

-- a number that passes stands in the list behind those before it
pub list_has : (test : ℕ → Bool) (n x : ℕ) → test x ≡ true → x < n → slice_get (list_below test n) (count_below test x) ≡ Some x
list_has test zero x pass h = absurd (omega (arith, h))
list_has test (suc n) x pass h = get_step test n x (test n) refl pass h (list_has test n x pass)

-- the lowest number that passes
lowest_step : (test : ℕ → Bool) (n : ℕ) (b : Bool) → test (lowest_upto test n) ≡ b → lowest_upto test (suc n) ≡ (if b then lowest_upto test n else suc n)
lowest_step test n b e = ap (λ (x : Bool). if x then lowest_upto test n else suc n) e

within_step : (test : ℕ → Bool) (n : ℕ) (b : Bool) → test (lowest_upto test n) ≡ b → lowest_upto test n ≤ n → lowest_upto test (suc n) ≤ suc n
within_step test n true e h = rw (lowest_step test n true e) (omega (arith, h))
within_step test n false e h = rw (lowest_step test n false e) (omega arith)

pub lowest_within : (test : ℕ → Bool) (n : ℕ) → lowest_upto test n ≤ n
lowest_within test zero = omega arith
lowest_within test (suc n) = within_step test n (test (lowest_upto test n)) refl (lowest_within test n)

passes_step : (test : ℕ → Bool) (n : ℕ) (b : Bool) → test (lowest_upto test n) ≡ b → test (suc n) ≡ true → test (lowest_upto test (suc n)) ≡ true
passes_step test n true e h = rw (lowest_step test n true e) e
passes_step test n false e h = rw (lowest_step test n false e) h

pub lowest_passes : (test : ℕ → Bool) (n : ℕ) → test n ≡ true → test (lowest_upto test n) ≡ true
lowest_passes test zero h = h
lowest_passes test (suc n) h = passes_step test n (test (lowest_upto test n)) refl h

-- where the answer does not pass, no number up to the bound does
none_step : (test : ℕ → Bool) (n x : ℕ) (b : Bool) → test (lowest_upto test n) ≡ b → test (lowest_upto test (suc n)) ≡ false → x ≤ suc n
    → (test (lowest_upto test n) ≡ false → x ≤ n → test x ≡ false) → test x ≡ false
none_step test n x true e fails h before = absurd (cc (e, ap test (lowest_step test n true e), fails))
none_step test n x false e fails h before = ⊎_elim
    (λ (low : x < suc n). before e (omega (arith, low)))
    (λ (high : suc n ≤ x). let is : x ≡ lowest_upto test (suc n) = omega (arith, high, h, lowest_step test n false e) in rw is fails)
    (cases_lt x (suc n))

pub lowest_none : (test : ℕ → Bool) (n x : ℕ) → test (lowest_upto test n) ≡ false → x ≤ n → test x ≡ false
lowest_none test zero x fails h = let is : x ≡ 0 = omega (arith, h) in rw is fails
lowest_none test (suc n) x fails h = none_step test n x (test (lowest_upto test n)) refl fails h (lowest_none test n x)

least_step : (test : ℕ → Bool) (n x : ℕ) (b : Bool) → test (lowest_upto test n) ≡ b → x < lowest_upto test (suc n)
    → (x < lowest_upto test n → test x ≡ false) → test x ≡ false
least_step test n x true e h before = let is = lowest_step test n true e in before (omega (arith, is, h))
least_step test n x false e h before = let is = lowest_step test n false e in lowest_none test n x e (omega (arith, is, h))

pub lowest_least : (test : ℕ → Bool) (n x : ℕ) → x < lowest_upto test n → test x ≡ false
lowest_least test zero x h = absurd (omega (arith, h))
lowest_least test (suc n) x h = least_step test n x (test (lowest_upto test n)) refl h (lowest_least test n x)

-- tests that agree up to the bound have one answer
same_step : (test other : ℕ → Bool) (n : ℕ) (b : Bool) → other (lowest_upto other n) ≡ b → test (lowest_upto test n) ≡ b
    → lowest_upto test n ≡ lowest_upto other n → lowest_upto test (suc n) ≡ lowest_upto other (suc n)
same_step test other n true e f before = lowest_step test n true f ∙ before ∙ sym (lowest_step other n true e)
same_step test other n false e f before = lowest_step test n false f ∙ sym (lowest_step other n false e)

pub lowest_same : (test other : ℕ → Bool) (n : ℕ) → ((x : ℕ) → x ≤ n → test x ≡ other x) → lowest_upto test n ≡ lowest_upto other n
lowest_same test other zero each = refl
lowest_same test other (suc n) each =
    let before : lowest_upto test n ≡ lowest_upto other n = lowest_same test other n (λ x h. each x (omega (arith, h))) in
    let low = lowest_within test n in
    let here : test (lowest_upto test n) ≡ other (lowest_upto other n) = each (lowest_upto test n) (omega (arith, low)) ∙ ap other before in
    same_step test other n (other (lowest_upto other n)) refl here before

-- no more are counted than there are
within_count : (test : ℕ → Bool) (n : ℕ) (b : Bool) → test n ≡ b → count_below test n ≤ n → count_below test (suc n) ≤ suc n
within_count test n true e h = let one = count_next test n e in omega (arith, one, h)
within_count test n false e h = let same = count_past test n e in omega (arith, same, h)

pub count_within : (test : ℕ → Bool) (n : ℕ) → count_below test n ≤ n
count_within test zero = omega arith
count_within test (suc n) = within_count test n (test n) refl (count_within test n)

-- tests that agree below a bound make one list
pub list_same : (test other : ℕ → Bool) (n : ℕ) → ((x : ℕ) → x < n → test x ≡ other x) → list_below test n ≡ list_below other n
list_same test other zero each = refl
list_same test other (suc n) each =
    let before : list_below test n ≡ list_below other n = list_same test other n (λ x h. each x (omega (arith, h))) in
    let here : test n ≡ other n = each n (omega arith) in
    list_step test n (other n) here ∙ ap (λ (xs : List ℕ). if other n then xs ++ n ∷ [] else xs) before

-- the entry of the list that has so many before it
pub list_at : (test : ℕ → Bool) (n x i : ℕ) → test x ≡ true → x < n → count_below test x ≡ i → slice_get (list_below test n) i ≡ Some x
list_at test n x i pass low is = subst (λ (k : ℕ). slice_get (list_below test n) k ≡ Some x) is (list_has test n x pass low)

pub list_past : (test : ℕ → Bool) (n i : ℕ) → count_below test n ≤ i → slice_get (list_below test n) i ≡ None
list_past test n i h = let long = list_length test n in slice_get_past (list_below test n) i (omega (arith, long, h))
