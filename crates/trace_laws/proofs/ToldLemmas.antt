-- A setup that a trace tells whole.
use Rattle.std.proofs.Common.{◌≡◌, ℕ, zero, suc, ◌+◌, ◌-◌, ◌≤◌, List, [], ◌∷◌, ◌++◌, get_or, length, map, replicate, refl, sym, ap, ◌∙◌, arith}
use Rattle.std.specs.List.{range_with_len}
use Rattle.scc_base.specs.Setups.{SetupView, host_of}
use Rattle.trace_laws.specs.Told.{told_setup}

-- a table that is 0 from some place on
zeros_are : (m : ℕ) (xs : List ℕ) → length xs ≡ m → ((k : ℕ) → get_or xs k 0 ≡ 0) → replicate m 0 ≡ xs
zeros_are zero [] long are = refl
zeros_are zero (x ∷ xs) long are = absurd (omega (arith, long))
zeros_are (suc m) [] long are = absurd (omega (arith, long))
zeros_are (suc m) (x ∷ xs) long are = let rest = zeros_are m xs (omega (arith, long)) (λ k. are (suc k)) in let first : x ≡ 0 = are 0 in λ i. sym first i ∷ rest i

-- is what stands before that place, and zeros
table_is : (hosts : ℕ → ℕ) (n len : ℕ) (xs : List ℕ) (from : ℕ) → n ≤ len → length xs ≡ len → ((k : ℕ) → get_or xs k 0 ≡ hosts (from + k)) → ((k : ℕ) → n ≤ k → get_or xs k 0 ≡ 0)
    → map hosts (range_with_len from n) ++ replicate (len - n) 0 ≡ xs
table_is hosts zero len xs from within long are none = zeros_are (len - 0) xs (omega (arith, long)) (λ k. none k (omega arith))
table_is hosts (suc n) len [] from within long are none = absurd (omega (arith, within, long))
table_is hosts (suc n) len (x ∷ xs) from within long are none =
    let first : hosts from ≡ x = ap hosts (omega arith) ∙ sym (are 0) in
    let less : len - suc n ≡ length xs - n = omega (arith, within, long) in
    let rest = table_is hosts n (length xs) xs (from + 1) (omega (arith, within, long)) refl (λ k. are (suc k) ∙ ap hosts (omega arith)) (λ k above. none (suc k) (omega (arith, above))) in
    let table : map hosts (range_with_len (from + 1) n) ++ replicate (len - suc n) 0 ≡ xs = ap (λ (m : ℕ). map hosts (range_with_len (from + 1) n) ++ replicate m 0) less ∙ rest in
    λ i. first i ∷ table i

pub told_whole : (s : SetupView) → s.nue ≤ 48 → length s.hosts ≡ 48 → ((r : ℕ) → s.nue ≤ r → host_of s.hosts r ≡ 0) → told_setup s ≡ s
told_whole s most long none =
    ap (λ (hosts : List ℕ). record s { hosts = hosts }) (table_is (host_of s.hosts) s.nue 48 s.hosts 0 most long (λ k. ap (host_of s.hosts) (omega arith)) none)
