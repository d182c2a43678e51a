-- The bytes of a filling come again behind each 251 of them.
use Rattle.std.proofs.Common.{◌≡◌, ◌⊎◌, ℕ, zero, suc, ◌+◌, ◌-◌, ◌<◌, ◌≤◌, ◌%◌, List, [], ◌∷◌, ◌++◌, ◌∙◌, ap, sym, take, min, arith, inl, inr, append_assoc}
use Rattle.std.specs.List.{slice_range}
use Rattle.std.proofs.Math.Nat.{min-eq_left, min-eq_right}
use Rattle.std.proofs.lemmas.Bool.{cases_lt}
use Rattle.std.proofs.lemmas.List.{append-nil}
use Rattle.std.proofs.lemmas.List.FromFn.{map-range_with_len_more, take-map-range_with_len}
use Rattle.script_machine.specs.Program.{filling}

-- one byte more
one_more : (n start : ℕ) → filling (n + 1) start ≡ filling n start ++ (start + n) % 251 ∷ []
one_more n start = map-range_with_len_more (λ (i : ℕ). (start + i) % 251) 0 n n (omega arith)

-- behind whole periods come the bytes of the beginning
pub filling_again : (n m start : ℕ) → n % 251 ≡ 0 → filling (n + m) start ≡ filling n start ++ filling m start
filling_again n zero start whole =
    let none : n + 0 ≡ n = omega arith in
    ap (λ (k : ℕ). filling k start) none ∙ sym (append-nil (filling n start))
filling_again n (suc m) start whole =
    let last : (start + (n + m)) % 251 ≡ (start + m) % 251 = omega (arith, whole) in
    let one : n + suc m ≡ n + m + 1 = omega arith in
    let next : m + 1 ≡ suc m = omega arith in
    ap (λ (k : ℕ). filling k start) one ∙ one_more (n + m) start
    ∙ ap (λ (byte : ℕ). filling (n + m) start ++ byte ∷ []) last
    ∙ ap (λ (l : List ℕ). l ++ (start + m) % 251 ∷ []) (filling_again n m start whole)
    ∙ append_assoc (filling n start) (filling m start) ((start + m) % 251 ∷ [])
    ∙ ap (λ (l : List ℕ). filling n start ++ l) (sym (one_more m start) ∙ ap (λ (k : ℕ). filling k start) next)

-- the first bytes of a filling are a shorter one
pub filling_begins : (n m start : ℕ) → m ≤ n → slice_range (filling n start) 0 m ≡ filling m start
filling_begins n m start fits =
    let all : m - 0 ≡ m = omega arith in
    ap (λ (k : ℕ). take k (filling n start)) all ∙ take-map-range_with_len (λ (i : ℕ). (start + i) % 251) 0 n m fits

-- what a first part of at most 251 bytes comes to: all of them, or a whole period
pub first_part : (n len : ℕ) → n ≡ min len 251 → (n ≡ len) ⊎ ((251 ≤ n) × (n % 251 ≡ 0))
first_part n len is = by (cases_lt len 251)
  where
    by : (len < 251) ⊎ (251 ≤ len) → (n ≡ len) ⊎ ((251 ≤ n) × (n % 251 ≡ 0))
    by (inl few) =
        let all : len ≤ 251 = omega (arith, few) in
        inl (is ∙ min-eq_left all)
    by (inr many) =
        let same : n ≡ 251 = is ∙ min-eq_right many in
        inr (omega (arith, same), omega (arith, same))

-- and with as many bytes once more, or with those that lack
pub next_part : (n m len : ℕ) → m ≡ min n (len - n) → n < len → n % 251 ≡ 0 → 251 ≤ n → (n + m ≡ len) ⊎ ((251 ≤ n + m) × ((n + m) % 251 ≡ 0))
next_part n m len is more whole some = by (cases_lt (len - n) n)
  where
    by : (len - n < n) ⊎ (n ≤ len - n) → (n + m ≡ len) ⊎ ((251 ≤ n + m) × ((n + m) % 251 ≡ 0))
    by (inl few) =
        let all : len - n ≤ n = omega (arith, few) in
        let same : m ≡ len - n = is ∙ min-eq_right all in
        inl (omega (arith, same, more))
    by (inr many) =
        let same : m ≡ n = is ∙ min-eq_left many in
        inr (omega (arith, same, some), omega (arith, same, whole))
