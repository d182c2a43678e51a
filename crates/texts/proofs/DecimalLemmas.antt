-- A decimal text reads back as its number.
use Rattle.std.proofs.Common.{◌≡◌, ℕ, ◌+◌, ◌-◌, ◌*◌, ◌/◌, ◌%◌, ◌<◌, ◌≤◌, Bool, true, false, cond, ◌&&◌, List, [], ◌∷◌, ◌++◌, length, Option, Some, None, decimal, ◌∙◌, ap, arith}
use Rattle.std.specs.Prelude.{nat_le}
use Rattle.std.specs.Char.{is_ascii_digit}
use Rattle.std.proofs.lemmas.Bool.{and_from, le-leb, cond-true}
use Rattle.std.proofs.lemmas.Bool.Decides.{nat_tests}
use Rattle.std.proofs.lemmas.Fmt.{decimal_by_steps, decimal_nonempty, length-decimal-le}
use Rattle.texts.specs.Numbers.{digits_value, number_of}

passed : (t : Bool) (a b c : Option ℕ) (n : ℕ) → (a ≡ Some n → b ≡ c) → cond t a None ≡ Some n → cond t b None ≡ c
passed true a b c n more is = more is
passed false a b c n more is = absurd cc

digits-append : (limit front : ℕ) (xs ys : List ℕ) (n : ℕ) → digits_value limit front xs ≡ Some n → digits_value limit front (xs ++ ys) ≡ digits_value limit n ys
digits-append limit front [] ys n is = ap (λ (m : ℕ). digits_value limit m ys) cc
digits-append limit front (b ∷ xs) ys n is =
    passed (is_ascii_digit b && nat_le (front * 10 + (b - 48)) limit) (digits_value limit (front * 10 + (b - 48)) xs) (digits_value limit (front * 10 + (b - 48)) (xs ++ ys)) (digits_value limit n ys) n
    (λ e. digits-append limit (front * 10 + (b - 48)) xs ys n e) is

digit_passes : (limit front b : ℕ) → 48 ≤ b → b ≤ 57 → front * 10 + (b - 48) ≤ limit → digits_value limit front (b ∷ []) ≡ Some (front * 10 + (b - 48))
digit_passes limit front b low high within = grind (arith, nat_tests)

abbrev Reads : ℕ → ℕ → List ℕ → Type 0
Reads limit n ds = n ≤ limit → digits_value limit 0 ds ≡ Some n

reads_one : (limit n : ℕ) → n < 10 → Reads limit n ((48 + n) ∷ [])
reads_one limit n small within =
    digit_passes limit 0 (48 + n) (omega arith) (omega arith) (omega arith) ∙ ap Some (omega arith)

reads_more : (limit n : ℕ) (ds : List ℕ) → 10 ≤ n → Reads limit (n / 10) ds → Reads limit n (ds ++ (48 + n % 10) ∷ [])
reads_more limit n ds large front within =
    digits-append limit 0 ds ((48 + n % 10) ∷ []) (n / 10) (front (omega arith))
    ∙ digit_passes limit (n / 10) (48 + n % 10) (omega arith) (omega arith) (omega arith) ∙ ap Some (omega arith)

pub number_of-decimal : (n : ℕ) → n ≤ 4294967295 → number_of (decimal n) ≡ Some n
unfolding number_of
number_of-decimal n within =
    let nonempty : 1 ≤ length (decimal n) = decimal_nonempty n (omega arith) in
    let short : length (decimal n) ≤ 10 = length-decimal-le 10 n (omega arith) (omega arith) (omega arith) in
    cond-true _ _ _ (and_from _ _ (le-leb 1 (length (decimal n)) nonempty) (le-leb (length (decimal n)) 10 short))
    ∙ decimal_by_steps (Reads 4294967295) (reads_one 4294967295) (reads_more 4294967295) n (omega arith) within
