-- Which bytes the words of a written trace have.
use Rattle.std.proofs.Common.{◌≡◌, ℕ, suc, ◌+◌, ◌/◌, ◌%◌, ◌^◌, ◌<◌, ◌≤◌, true, false, cond, List, [], ◌∷◌, ◌++◌, decimal, length, refl, ap, subst, ◌∙◌, arith}
use Rattle.std.specs.Prelude.{◌==◌, All, nat_le, slice_index}
use Rattle.std.specs.List.{list_all}
use Rattle.std.proofs.lemmas.Bool.{and_parts, and_from, le-leb, leb-true, ne_eqb}
use Rattle.std.proofs.lemmas.Bool.Decides.{nat_tests}
use Rattle.std.proofs.lemmas.Fmt.{decimal_by_steps}
use Rattle.std.proofs.lemmas.List.Elements.{All-nil, All-cons}
use Rattle.hex.specs.Hex.{IsBytes, encode_with, lower_digits}
use Rattle.rcce_audit.proofs.HexTextLemmas.{digit_at}

-- each byte of a text is this one or a higher one
abbrev pub IsFrom : ℕ → List ℕ → Type 0
IsFrom low text = list_all (λ b. nat_le low b) text ≡ true

pub from_append : (low : ℕ) (xs ys : List ℕ) → IsFrom low xs → IsFrom low ys → IsFrom low (xs ++ ys)
from_append low [] ys all more = more
from_append low (x ∷ xs) ys all more =
    let parts = and_parts (nat_le low x) (list_all (λ b. nat_le low b) xs) all in
    and_from (nat_le low x) (list_all (λ b. nat_le low b) (xs ++ ys)) parts.0 (from_append low xs ys parts.1 more)

pub from_lower : (low high : ℕ) (xs : List ℕ) → low ≤ high → IsFrom high xs → IsFrom low xs
from_lower low high [] below all = refl
from_lower low high (x ∷ xs) below all =
    let parts = and_parts (nat_le high x) (list_all (λ b. nat_le high b) xs) all in
    and_from (nat_le low x) (list_all (λ b. nat_le low b) xs) (le-leb low x (omega (arith, below, leb-true high x parts.0))) (from_lower low high xs below parts.1)

-- so it has no lower byte
pub no_byte : (c low : ℕ) (xs : List ℕ) → c < low → IsFrom low xs → All (λ b. (b == c) ≡ false) xs
no_byte c low [] below all = All-nil (λ b. (b == c) ≡ false)
no_byte c low (x ∷ xs) below all =
    let parts = and_parts (nat_le low x) (list_all (λ b. nat_le low b) xs) all in
    All-cons (λ b. (b == c) ≡ false) x xs (ne_eqb x c (λ is. omega (arith, below, leb-true low x parts.0, is))) (no_byte c low xs below parts.1)

-- a literal text is so long at most
pub at_most : (n most : ℕ) (text : List ℕ) → n ≡ length text → n ≤ most → length text ≤ most
at_most n most text is within = subst (λ (m : ℕ). m ≤ most) is within

-- digits
one_from : (low n : ℕ) → low ≤ n → IsFrom low (n ∷ [])
one_from low n above = and_from (nat_le low n) true (le-leb low n above) refl

pub decimal_from : (n : ℕ) → n < 2 ^ 64 → IsFrom 48 (decimal n)
decimal_from n small =
    decimal_by_steps (λ m ds. IsFrom 48 ds) (λ m low. one_from 48 (48 + m) (omega arith))
    (λ m ds high all. from_append 48 ds ((48 + m % 10) ∷ []) all (one_from 48 (48 + m % 10) (omega arith))) n small

digit_from : (v : ℕ) → v < 16 → nat_le 48 (slice_index lower_digits v) ≡ true
digit_from v small = ap (nat_le 48) (digit_at v small) ∙ high v small
  where
    high : (n : ℕ) → n < 16 → nat_le 48 (cond (nat_le n 9) (n + 48) (n + 87)) ≡ true
    high n below = grind (arith, nat_tests)

pub digits_from : (bytes : List ℕ) → IsBytes bytes → IsFrom 48 (encode_with lower_digits bytes)
unfolding encode_with
digits_from [] are = refl
digits_from (b ∷ bytes) are =
    let small : b < 256 = are 0 in
    and_from _ _ (digit_from (b / 16) (omega arith)) (and_from _ _ (digit_from (b % 16) (omega arith)) (digits_from bytes (λ i. are (suc i))))
