-- The number that was parsed is the one that the word writes.
use Rattle.std.proofs.Common.{◌≡◌, ℕ, ◌<◌, ◌^◌, Bool, true, false, ◌&&◌, nat_lt, List, [], ◌∷◌, length, map, Option, Some, None, Result, Ok, Err, refl, sym, ◌∙◌, ap, arith}
use Rattle.std.proofs.lemmas.Bool.Decides.{nat_tests}
use Rattle.std.specs.List.{list_all}
use Rattle.std.specs.Result.{OkIff}
use Rattle.std.specs.Char.{digit_value}
use Rattle.std.specs.Str.Parse.{AllDigits, IsNumeral, digits_value, without_leading_plus}
use Rattle.scc_proto.proofs.Layouts.Roles.{if_yes, if_no}
use Rattle.scc_proto.proofs.Tests.{both_first, both_second}
use Rattle.steps_program.specs.Jobs.{is_digit, is_numeral, number_of_digits, count_number, steps_job_of}

lt_true : (a b : ℕ) → a < b → nat_lt a b ≡ true
lt_true a b lt = grind (arith, nat_tests)

true_lt : (a b : ℕ) → nat_lt a b ≡ true → a < b
true_lt a b t = grind (arith, nat_tests)

both_true : (a b : Bool) → a ≡ true → b ≡ true → (a && b) ≡ true
both_true a b x y = λ i. x i && y i

digits_pass : (ds : List ℕ) → AllDigits 10 ds → list_all is_digit ds ≡ true
digits_pass [] all = refl
digits_pass (c ∷ cs) all = both_true (is_digit c) (list_all is_digit cs) (lt_true (digit_value c) 10 all.0) (digits_pass cs all.1)

pass_digits : (ds : List ℕ) → list_all is_digit ds ≡ true → AllDigits 10 ds
pass_digits [] t = tt
pass_digits (c ∷ cs) t = (true_lt (digit_value c) 10 (both_first (is_digit c) (list_all is_digit cs) t), pass_digits cs (both_second (is_digit c) (list_all is_digit cs) t))

numeral_passes : (ds : List ℕ) → IsNumeral 10 ds → is_numeral ds ≡ true
numeral_passes [] n = absurd (omega (arith, n.0))
numeral_passes (c ∷ cs) n = digits_pass (c ∷ cs) n.1

passes_numeral : (ds : List ℕ) → is_numeral ds ≡ true → IsNumeral 10 ds
passes_numeral [] t = absurd (cc (t))
passes_numeral (c ∷ cs) t = (omega arith, pass_digits (c ∷ cs) t)

abbrev value_if_ok : {E : Type 0} → Result ℕ E → Option ℕ
value_if_ok (Ok n) = Some n
value_if_ok (Err e) = None

digits_parsed : {E : Type 0} (ds : List ℕ) (r : Result ℕ E) → OkIff r (IsNumeral 10 ds × (digits_value 10 ds < 2 ^ 32)) (digits_value 10 ds) → value_if_ok r ≡ number_of_digits ds
digits_parsed ds (Ok n) p =
    let t : (is_numeral ds && nat_lt (digits_value 10 ds) (2 ^ 32)) ≡ true
    = both_true (is_numeral ds) (nat_lt (digits_value 10 ds) (2 ^ 32)) (numeral_passes ds p.0.0) (lt_true (digits_value 10 ds) (2 ^ 32) p.0.1) in
    ap (λ (k : ℕ). Some k) p.1 ∙ sym (if_yes (is_numeral ds && nat_lt (digits_value 10 ds) (2 ^ 32)) (Some (digits_value 10 ds)) None t)
digits_parsed ds (Err e) p = by (is_numeral ds && nat_lt (digits_value 10 ds) (2 ^ 32)) refl
  where
    by : (b : Bool) → (is_numeral ds && nat_lt (digits_value 10 ds) (2 ^ 32)) ≡ b → None ≡ number_of_digits ds
    by true t = absurd (p (
      passes_numeral ds (both_first (is_numeral ds) (nat_lt (digits_value 10 ds) (2 ^ 32)) t),
      true_lt (digits_value 10 ds) (2 ^ 32) (both_second (is_numeral ds) (nat_lt (digits_value 10 ds) (2 ^ 32)) t),
    ))
    by false f = sym (if_no (is_numeral ds && nat_lt (digits_value 10 ds) (2 ^ 32)) (Some (digits_value 10 ds)) None f)

pub parsed : (bs : List ℕ) (n : ℕ) → (IsNumeral 10 (without_leading_plus bs) × (digits_value 10 (without_leading_plus bs) < 2 ^ 32)) × (n ≡ digits_value 10 (without_leading_plus bs)) → Some n ≡ count_number bs
parsed bs n p = digits_parsed {E = ℕ} (without_leading_plus bs) (Ok n) p

pub not_parsed : (bs : List ℕ) → (IsNumeral 10 (without_leading_plus bs) × (digits_value 10 (without_leading_plus bs) < 2 ^ 32) → ⊥) → None ≡ count_number bs
not_parsed bs p = digits_parsed {E = ℕ} (without_leading_plus bs) (Err 0) p

-- fewer than two words ask for nothing
pub under_two : {A : Type 0} (bytes : A → List ℕ) (words : List A) → length words < 2 → None ≡ steps_job_of (map bytes words)
under_two bytes [] lt = refl
under_two bytes (x ∷ []) lt = refl
under_two bytes (x ∷ y ∷ words) lt = absurd (omega (arith, lt))
