-- The table of an evictor with one answer to each number of entries.
use Rattle.std.proofs.Common.{◌≡◌, ℕ, zero, suc, ◌+◌, Option, IfSome, map, slice_get, sym, ap, subst, arith}
use Rattle.std.specs.List.{range_with_len}
use Rattle.line_cache.specs.Eviction.{MayAnswer, answers_of}

at_place : (answer : ℕ → Option ℕ) (from n held : ℕ) → IfSome (slice_get (map answer (range_with_len from n)) held) (λ only. answer (from + held) ≡ only)
at_place answer from zero held = tt
at_place answer from (suc n) zero = let same : from + 0 ≡ from = omega arith in ap answer same
at_place answer from (suc n) (suc held) =
    let same : from + 1 + held ≡ from + suc held = omega arith in
    subst (λ (k : ℕ). IfSome (slice_get (map answer (range_with_len (from + 1) n)) held) (λ only. answer k ≡ only)) same (at_place answer (from + 1) n held)

-- the only answer may be given
pub only_answer : (answer : ℕ → Option ℕ) (held : ℕ) (r : Option ℕ) → r ≡ answer held → MayAnswer (answers_of answer) held r
unfolding answers_of
only_answer answer held r e =
    let here : 0 + held ≡ held = omega arith in
    let at : IfSome (slice_get (map answer (range_with_len 0 513)) held) (λ only. answer held ≡ only)
    = subst (λ (k : ℕ). IfSome (slice_get (map answer (range_with_len 0 513)) held) (λ only. answer k ≡ only)) here (at_place answer 0 513 held) in
    subst (λ (x : Option ℕ). IfSome (slice_get (map answer (range_with_len 0 513)) held) (λ only. x ≡ only)) (sym e) at
