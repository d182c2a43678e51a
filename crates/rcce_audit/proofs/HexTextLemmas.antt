-- Hex digits in lower case: a word of them is the text of the bytes that it decodes to.
use Rattle.std.proofs.Common.{◌≡◌, ℕ, zero, suc, ◌+◌, ◌*◌, ◌/◌, ◌%◌, ◌<◌, Bool, true, false, cond, ◌&&◌, ◌||◌, not, List, [], ◌∷◌, length, Option, Some, None, Result, Ok, Err, refl, sym, ◌∙◌, ap, arith}
use Rattle.std.specs.Prelude.{◌==◌, nat_le, slice_index}
use Rattle.std.specs.List.{list_all}
use Rattle.std.proofs.lemmas.Bool.{and_parts, and_from}
use Rattle.std.proofs.lemmas.Bool.Decides.{nat_tests}
use Rattle.hex.specs.Hex.{◌>>=◌, IsBytes, decode_of, decode_pairs, encode_lower, encode_with, hex_digit_value, lower_digits, pair_value, value_at, digit_or_error}
use Rattle.hex.specs.declared.error.FromHexError.{FromHexError}
use Rattle.hex.specs.declared.error.FromHexError.TheVariants.{OddLength}
use Rattle.hex.proofs.HexLemmas.{decode_pairs-ok}

-- the sixteen digits
abbrev pub lower_byte : ℕ → Bool
lower_byte b = nat_le b 57 || nat_le 97 b

pub digit_at : (v : ℕ) → v < 16 → slice_index lower_digits v ≡ cond (nat_le v 9) (v + 48) (v + 87)
digit_at zero h = refl
digit_at (suc zero) h = refl
digit_at (suc (suc zero)) h = refl
digit_at (suc (suc (suc zero))) h = refl
digit_at (suc (suc (suc (suc zero)))) h = refl
digit_at (suc (suc (suc (suc (suc zero))))) h = refl
digit_at (suc (suc (suc (suc (suc (suc zero)))))) h = refl
digit_at (suc (suc (suc (suc (suc (suc (suc zero))))))) h = refl
digit_at (suc (suc (suc (suc (suc (suc (suc (suc zero)))))))) h = refl
digit_at (suc (suc (suc (suc (suc (suc (suc (suc (suc zero))))))))) h = refl
digit_at (suc (suc (suc (suc (suc (suc (suc (suc (suc (suc zero)))))))))) h = refl
digit_at (suc (suc (suc (suc (suc (suc (suc (suc (suc (suc (suc zero))))))))))) h = refl
digit_at (suc (suc (suc (suc (suc (suc (suc (suc (suc (suc (suc (suc zero)))))))))))) h = refl
digit_at (suc (suc (suc (suc (suc (suc (suc (suc (suc (suc (suc (suc (suc zero))))))))))))) h = refl
digit_at (suc (suc (suc (suc (suc (suc (suc (suc (suc (suc (suc (suc (suc (suc zero)))))))))))))) h = refl
digit_at (suc (suc (suc (suc (suc (suc (suc (suc (suc (suc (suc (suc (suc (suc (suc zero))))))))))))))) h = refl
digit_at (suc (suc (suc (suc (suc (suc (suc (suc (suc (suc (suc (suc (suc (suc (suc (suc v)))))))))))))))) h = absurd (omega arith)

-- a digit that reads in lower case is the digit of its value
digit_back : (c v : ℕ) → hex_digit_value c ≡ Some v → lower_byte c ≡ true → (v < 16) × (cond (nat_le v 9) (v + 48) (v + 87) ≡ c)
digit_back c v is low = (grind (arith, nat_tests), grind (arith, nat_tests))

digit_same : (c v : ℕ) → hex_digit_value c ≡ Some v → lower_byte c ≡ true → slice_index lower_digits v ≡ c
digit_same c v is low = let back = digit_back c v is low in digit_at v back.0 ∙ back.1

-- what an `Ok` after a step shows
bound : {A B : Type 0} (r : Result A FromHexError) (f : A → Result B FromHexError) (y : B) → (r >>= f) ≡ Ok y → (x : A) × (r ≡ Ok x) × (f x ≡ Ok y)
bound (Ok x) f y h = (x, refl, h)
bound (Err e) f y h = absurd cc

digit_read : (c i : ℕ) (o : Option ℕ) (v : ℕ) → digit_or_error c i o ≡ Ok v → o ≡ Some v
digit_read c i (Some w) v h = cc
digit_read c i None v h = absurd cc

-- pairs of digits in lower case are the text of their bytes
decode_back : (i : ℕ) (word bytes : List ℕ) → decode_pairs i word ≡ Ok bytes → list_all lower_byte word ≡ true → encode_with lower_digits bytes ≡ word
unfolding decode_pairs encode_with
decode_back i [] bytes h low = let e : [] ≡ bytes = cc in ap (encode_with lower_digits) (sym e)
decode_back i (a ∷ []) bytes h low = absurd cc
decode_back i (a ∷ b ∷ rest) bytes h low =
    let p0 = bound (pair_value a b i) _ bytes h in
    let p1 = bound (value_at a i) _ p0.0 p0.1 in
    let p2 = bound (value_at b (i + 1)) _ p0.0 p1.2 in
    let p3 = bound (decode_pairs (i + 2) rest) _ bytes p0.2 in
    let lows = and_parts (lower_byte a) (list_all lower_byte (b ∷ rest)) low in
    let later = and_parts (lower_byte b) (list_all lower_byte rest) lows.1 in
    let is_a = digit_read a i (hex_digit_value a) p1.0 p1.1 in
    let is_b = digit_read b (i + 1) (hex_digit_value b) p2.0 p2.1 in
    let small = (digit_back b p2.0 is_b later.0).0 in
    let byte : p1.0 * 16 + p2.0 ≡ p0.0 = cc in
    let whole : p0.0 ∷ p3.0 ≡ bytes = cc in
    let high : p0.0 / 16 ≡ p1.0 = omega arith in
    let rest_of : p0.0 % 16 ≡ p2.0 = omega arith in
    let first : slice_index lower_digits (p0.0 / 16) ≡ a = ap (slice_index lower_digits) high ∙ digit_same a p1.0 is_a lows.0 in
    let second : slice_index lower_digits (p0.0 % 16) ≡ b = ap (slice_index lower_digits) rest_of ∙ digit_same b p2.0 is_b later.0 in
    let third = decode_back (i + 2) rest p3.0 p3.1 later.1 in
    ap (encode_with lower_digits) (sym whole) ∙ cc

-- what decodes and has no capital letter is the text of its bytes
pub lower_text : (word bytes : List ℕ) → decode_of word ≡ Ok bytes → list_all lower_byte word ≡ true → (encode_lower bytes ≡ word) × IsBytes bytes
lower_text word bytes ok low = even (length word % 2 == 1) refl ok
  where
    even : (t : Bool) → (length word % 2 == 1) ≡ t → cond t (Err OddLength) (decode_pairs 0 word) ≡ Ok bytes → (encode_lower bytes ≡ word) × IsBytes bytes
    even true is r = absurd cc
    even false is r = (decode_back 0 word bytes r low, (decode_pairs-ok 0 word bytes r).2)

low_at : (v : ℕ) → v < 16 → lower_byte (slice_index lower_digits v) ≡ true
low_at v small = ap lower_byte (digit_at v small) ∙ low_digit v small
  where
    low_digit : (n : ℕ) → n < 16 → lower_byte (cond (nat_le n 9) (n + 48) (n + 87)) ≡ true
    low_digit n h = grind (arith, nat_tests)

-- and the text of bytes has none, and is not empty
all_low : (bytes : List ℕ) → IsBytes bytes → list_all lower_byte (encode_with lower_digits bytes) ≡ true
unfolding encode_with
all_low [] are = refl
all_low (b ∷ bytes) are =
    let small : b < 256 = are 0 in
    and_from _ _ (low_at (b / 16) (omega arith)) (and_from _ _ (low_at (b % 16) (omega arith)) (all_low bytes (λ i. are (suc i))))

pub text_lower : (b : ℕ) (bytes : List ℕ) → IsBytes (b ∷ bytes) → (not (length (encode_lower (b ∷ bytes)) == 0) && list_all lower_byte (encode_lower (b ∷ bytes))) ≡ true
unfolding encode_with
text_lower b bytes are = and_from _ _ (some _) (all_low (b ∷ bytes) are)
  where
    some : (n : ℕ) → not (suc (suc n) == 0) ≡ true
    some n = grind (arith, nat_tests)
