-- Words of a log's lines: a word says what it is the text of, and no word of a text has a blank.
use Rattle.std.proofs.Common.{◌≡◌, ◌⊎◌, ℕ, zero, suc, ◌≤◌, Bool, true, false, cond, ◌&&◌, not, List, [], ◌∷◌, length, Option, Some, None, Result, Ok, Err, decimal, codes, inl, inr, ⊎_elim, refl, sym, ◌∙◌, ap, subst, arith}
use Rattle.std.specs.Prelude.{◌==◌, nat_le}
use Rattle.std.specs.Result.{result_ok}
use Rattle.std.specs.Str.{bytes_eq}
use Rattle.std.proofs.lemmas.Bool.{and_parts, leb-true, eqb-false, not-true, cond-true, cond-false, false_from_ne_true}
use Rattle.std.proofs.lemmas.Bool.Decides.{nat_tests}
use Rattle.std.proofs.lemmas.Option.{cond_some}
use Rattle.std.proofs.lemmas.Slice.Eq.{bytes_eq-Decides}
use Rattle.hex.specs.Hex.{IsBytes, decode_of, encode_lower, encode_with, lower_digits}
use Rattle.hex.proofs.HexLemmas.{decode_of-encode_lower, length-encode_with}
use Rattle.rcce_audit.proofs.HexTextLemmas.{lower_text, text_lower}
use Rattle.scc_base.specs.declared.kinds.Kind.{Kind}
use Rattle.scc_base.specs.declared.kinds.Kind.TheVariants.{Plain, Bcast, Reduce, AllUp, AllDown}
use Rattle.texts.specs.Hex.{bytes_of}
use Rattle.texts.specs.Numbers.{number_of}
use Rattle.texts.proofs.DecimalLemmas.{number_of-decimal}
use Rattle.scc_base.specs.Heads.{kind_text}
use Rattle.rcce_io.specs.Digits.{hex_text}
use Rattle.rcce_audit.specs.Words.{◌>>=◌, only_if, exact_spelling, exact_number_said, exact_range_said, kind_said, is_lower, exact_hex_said}

-- equal texts
pub same_text : (xs ys : List ℕ) → bytes_eq xs ys ≡ true → xs ≡ ys
same_text xs ys is = (bytes_eq-Decides xs ys).0 is

pub text_same : (xs ys : List ℕ) → xs ≡ ys → bytes_eq xs ys ≡ true
text_same xs ys is = (bytes_eq-Decides xs ys).1 is

pub text_other : (xs ys : List ℕ) → (xs ≡ ys → ⊥) → bytes_eq xs ys ≡ false
text_other xs ys other = false_from_ne_true (bytes_eq xs ys) (λ is. other (same_text xs ys is))

-- what a chain of steps that gives a value shows
pub then_some : {A B : Type 0} (o : Option A) (next : A → Option B) (y : B) → (o >>= next) ≡ Some y → (x : A) × (o ≡ Some x) × (next x ≡ Some y)
then_some (Some x) next y is = (x, refl, is)
then_some None next y is = absurd cc

pub only_some : {A : Type 0} (test : Bool) (x y : A) → only_if test x ≡ Some y → (test ≡ true) × (x ≡ y)
only_some test x y is = cond_some test x y is

-- a choice of a value
pub chosen : {A : Type 0} (test : Bool) (x y : A) (rest : Option A) → cond test (Some x) rest ≡ Some y → ((test ≡ true) × (x ≡ y)) ⊎ (rest ≡ Some y)
chosen true x y rest is = inl (refl, cc)
chosen false x y rest is = inr is

-- a number's word is its decimal text
pub number_word : (word : List ℕ) (n : ℕ) → exact_number_said word ≡ Some n → decimal n ≡ word
number_word word n said =
    let (m, is, gives) = then_some (number_of word) (exact_spelling word) n said in
    let (same, value) = only_some (bytes_eq (decimal m) word) m n gives in
    ap decimal (sym value) ∙ same_text (decimal m) word same

-- and so is that of a number from a range
pub record IsNumberWord (low high n : ℕ) (word : List ℕ) : Type 0 where
  pub text : decimal n ≡ word
  pub least : low ≤ n
  pub most : n ≤ high

pub range_word : (low high : ℕ) (word : List ℕ) (n : ℕ) → exact_range_said low high word ≡ Some n → IsNumberWord low high n word
range_word low high word n said =
    let (m, is, gives) = then_some (exact_number_said word) (λ k. only_if (nat_le low k && nat_le k high) k) n said in
    let (within, value) = only_some (nat_le low m && nat_le m high) m n gives in
    let bounds = and_parts (nat_le low m) (nat_le m high) within in
    record {
      text = ap decimal (sym value) ∙ number_word word m is;
      least = omega (arith, leb-true low m bounds.0, value);
      most = omega (arith, leb-true m high bounds.1, value);
    }

-- and the decimal text of a number says it
pub number_said-decimal : (n : ℕ) → n ≤ 4294967295 → exact_number_said (decimal n) ≡ Some n
number_said-decimal n within =
    ap (λ (o : Option ℕ). o >>= exact_spelling (decimal n)) (number_of-decimal n within)
    ∙ cond-true _ _ _ (text_same (decimal n) (decimal n) refl)

pub range_said-decimal : (low high n : ℕ) → low ≤ n → n ≤ high → n ≤ 4294967295 → exact_range_said low high (decimal n) ≡ Some n
range_said-decimal low high n least most within =
    ap (λ (o : Option ℕ). o >>= λ k. only_if (nat_le low k && nat_le k high) k) (number_said-decimal n within)
    ∙ cond-true (nat_le low n && nat_le n high) (Some n) None (grind (arith, nat_tests))

-- a kind's word is its name
pub kind_word : (word : List ℕ) (k : Kind) → kind_said word ≡ Some k → kind_text k ≡ word
kind_word word k said =
    ⊎_elim (named word Plain k) (λ r1. ⊎_elim (named word Bcast k) (λ r2. ⊎_elim (named word Reduce k) (λ r3. ⊎_elim (named word AllUp k) (λ r4. ⊎_elim (named word AllDown k) (λ (r5 : None ≡ Some k). absurd cc)
    (chosen (bytes_eq word (codes "alldown")) AllDown k _ r4))
    (chosen (bytes_eq word (codes "allup")) AllUp k _ r3))
    (chosen (bytes_eq word (codes "reduce")) Reduce k _ r2))
    (chosen (bytes_eq word (codes "bcast")) Bcast k _ r1))
    (chosen (bytes_eq word (codes "plain")) Plain k _ said)
  where
    named : (w : List ℕ) (x y : Kind) → (bytes_eq w (kind_text x) ≡ true) × (x ≡ y) → kind_text y ≡ w
    named w x y (same, is) = ap kind_text (sym is) ∙ sym (same_text w (kind_text x) same)

pub kind_said-kind_text : (k : Kind) → kind_said (kind_text k) ≡ Some k
kind_said-kind_text Plain = refl
kind_said-kind_text Bcast = refl
kind_said-kind_text Reduce = refl
kind_said-kind_text AllUp = refl
kind_said-kind_text AllDown = refl

some_ok : {A E : Type 0} (r : Result A E) (x : A) → result_ok r ≡ Some x → r ≡ Ok x
some_ok (Ok y) x is = cc
some_ok (Err e) x is = absurd cc

-- a word of digits says the bytes of which it is the text
pub record IsHexWord (bytes word : List ℕ) : Type 0 where
  pub text : hex_text bytes ≡ word
  pub are_bytes : IsBytes bytes

no_bytes : IsBytes []
no_bytes zero = omega arith
no_bytes (suc i) = omega arith

text_nonempty : (bytes word : List ℕ) → encode_lower bytes ≡ word → (length word ≡ 0 → ⊥) → hex_text bytes ≡ word
unfolding encode_with
text_nonempty [] word is some = absurd (some (sym (ap length is)))
text_nonempty (b ∷ bytes) word is some = is

pub hex_word : (word bytes : List ℕ) → exact_hex_said word ≡ Some bytes → IsHexWord bytes word
hex_word word bytes said = lower (not (length word == 0) && is_lower word) refl said
  where
    digits : (not (length word == 0) && is_lower word) ≡ true → result_ok (decode_of word) ≡ Some bytes → IsHexWord bytes word
    digits is r =
        let parts = and_parts (not (length word == 0)) (is_lower word) is in
        let ok = some_ok (decode_of word) bytes r in
        let back = lower_text word bytes ok parts.1 in
        let some : length word ≡ 0 → ⊥ = eqb-false (length word) 0 (not-true (length word == 0) parts.0) in
        record { text = text_nonempty bytes word back.0 some; are_bytes = back.1 }

    lower : (t : Bool) → (not (length word == 0) && is_lower word) ≡ t → cond t (bytes_of word) None ≡ Some bytes → IsHexWord bytes word
    lower true is r =
        ⊎_elim
        (λ (none : (bytes_eq word (codes "-") ≡ true) × ([] ≡ bytes)). record { text = ap hex_text (sym none.1) ∙ sym (same_text word (codes "-") none.0); are_bytes = subst IsBytes none.1 no_bytes })
        (digits is)
        (chosen (bytes_eq word (codes "-")) [] bytes _ r)
    lower false is r = absurd cc

pub hex_said-hex_text : (bytes : List ℕ) → IsBytes bytes → exact_hex_said (hex_text bytes) ≡ Some bytes
unfolding encode_with
hex_said-hex_text [] are = refl
hex_said-hex_text (b ∷ bytes) are =
    let len = length-encode_with lower_digits (b ∷ bytes) in
    let other : bytes_eq (encode_lower (b ∷ bytes)) (codes "-") ≡ false = text_other (encode_lower (b ∷ bytes)) (codes "-") (λ is. let two = ap length is in absurd (omega (arith, len, two))) in
    cond-true _ _ _ (text_lower b bytes are) ∙ cond-false _ _ _ other ∙ ap result_ok (decode_of-encode_lower (b ∷ bytes) are)
