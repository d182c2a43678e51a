-- The words of a written trace are read back: values, places and layouts.
use Rattle.std.proofs.Common.{◌≡◌, ℕ, zero, suc, ◌/◌, ◌%◌, ◌^◌, ◌<◌, ◌≤◌, true, not, List, [], ◌∷◌, ◌++◌, length, codes, decimal, Option, Some, option_map, Result, Ok, refl, ap, ◌∙◌, arith}
use Rattle.std.specs.Prelude.{◌==◌, slice_index}
use Rattle.std.specs.Int.{w64, byte_at, bytes_high_first, from_be_bytes, to_be_bytes}
use Rattle.std.specs.Result.{result_ok}
use Rattle.std.specs.Str.{bytes_eq}
use Rattle.std.proofs.lemmas.Bool.{and_parts, cond-true}
use Rattle.std.proofs.lemmas.List.Splits.{slice_split_none, slice_split_at}
use Rattle.std.proofs.lemmas.Nat.{from_be_bytes-to_be_bytes_8}
use Rattle.hex.specs.Hex.{IsBytes, decode_sized, lower_digits}
use Rattle.hex.specs.declared.error.FromHexError.{FromHexError}
use Rattle.hex.proofs.HexLemmas.{decode_of-encode_lower, decode_sized-twice, length-encode_with}
use Rattle.rcce_io.specs.Digits.{hex_text}
use Rattle.rcce_audit.specs.Words.{◌>>=◌, is_lower, only_if, exact_range_said, log_words_of}
use Rattle.rcce_audit.proofs.HexTextLemmas.{text_lower}
use Rattle.rcce_audit.proofs.WordLemmas.{range_said-decimal}
use Rattle.scc_base.specs.Places.{IsPlace, WordAt}
use Rattle.scc_base.specs.declared.layouts.Layout.{Layout}
use Rattle.scc_base.specs.declared.layouts.Layout.TheVariants.{LineFlags, BitFlags}
use Rattle.trace_writer.specs.Lines.{layout_name}
use Rattle.trace_text.specs.Words.{dot_parts, hex_word_said, layout_said, place_said, register_place_said}
use Rattle.trace_laws.proofs.ByteLemmas.{IsFrom, decimal_from, digits_from, from_append, from_lower, no_byte}

-- a word, and what stands behind the blank after it
pub word_at : (w rest : List ℕ) → IsFrom 33 w → log_words_of (w ++ 32 ∷ rest) ≡ w ∷ log_words_of rest
word_at w rest is = slice_split_at (λ b. b == 32) w 32 rest (no_byte 32 33 w (omega arith) is) refl

pub last_word : (w : List ℕ) → IsFrom 33 w → log_words_of w ≡ w ∷ []
last_word w is = slice_split_none (λ b. b == 32) w (no_byte 32 33 w (omega arith) is)

-- numbers
pub number_from : (n : ℕ) → n ≤ 65536 → IsFrom 48 (decimal n)
number_from n small = decimal_from n (omega arith)

pub number_word : (n : ℕ) → n ≤ 65536 → IsFrom 33 (decimal n)
number_word n small = from_lower 33 48 (decimal n) (omega arith) (number_from n small)

-- a value, as sixteen digits
rest_small : (n : ℕ) → n % 256 < 256
rest_small n = omega arith

byte_small : (k n : ℕ) → byte_at k n < 256
byte_small zero n = rest_small n
byte_small (suc k) n = rest_small (n / 256 ^ suc k)

value_bytes : (k n : ℕ) → IsBytes (bytes_high_first k n)
value_bytes zero n i = none i
  where
    none : (i : ℕ) → slice_index [] i < 256
    none zero = omega arith
    none (suc i) = omega arith
value_bytes (suc k) n zero = byte_small k n
value_bytes (suc k) n (suc i) = value_bytes k n i

abbrev pub value_text : ℕ → List ℕ
value_text v = hex_text (to_be_bytes w64 v)

pub value_from : (v : ℕ) → IsFrom 48 (value_text v)
value_from v = digits_from (to_be_bytes w64 v) (value_bytes 8 v)

pub value_long : (v : ℕ) → length (value_text v) ≡ 16
value_long v = length-encode_with lower_digits (to_be_bytes w64 v)

pub value_told : (v : ℕ) → v < 2 ^ 64 → hex_word_said (value_text v) ≡ Some v
value_told v small =
    let bytes = to_be_bytes w64 v in
    let are = value_bytes 8 v in
    let lower : is_lower (value_text v) ≡ true = (and_parts (not (length (value_text v) == 0)) (is_lower (value_text v)) (text_lower (byte_at 7 v) (bytes_high_first 7 v) are)).1 in
    let read : decode_sized (value_text v) 8 ≡ Ok bytes = decode_sized-twice (value_text v) 8 (value_long v) ∙ decode_of-encode_lower bytes are in
    cond-true (is_lower (value_text v)) _ _ lower
    ∙ ap (λ (r : Result (List ℕ) FromHexError). option_map (from_be_bytes w64) (result_ok r)) read
    ∙ ap Some (from_be_bytes-to_be_bytes_8 v small)

-- a place of a word
abbrev pub place_text : WordAt → List ℕ
place_text p = decimal p.core ++ 46 ∷ (decimal p.line ++ 46 ∷ decimal p.word)

dot_at : (w rest : List ℕ) → IsFrom 48 w → dot_parts (w ++ 46 ∷ rest) ≡ w ∷ dot_parts rest
dot_at w rest is = slice_split_at (λ b. b == 46) w 46 rest (no_byte 46 48 w (omega arith) is) refl

dot_none : (w : List ℕ) → IsFrom 48 w → dot_parts w ≡ w ∷ []
dot_none w is = slice_split_none (λ b. b == 46) w (no_byte 46 48 w (omega arith) is)

number_told : (most n : ℕ) → n ≤ most → n ≤ 65536 → exact_range_said 0 most (decimal n) ≡ Some n
number_told most n within small = range_said-decimal 0 most n (omega arith) within (omega (arith, small))

pub place_told : (p : WordAt) → IsPlace p → place_said (dot_parts (place_text p)) ≡ Some p
place_told p is =
    let core = is.core_below in
    let line = is.line_below in
    let word = is.word_below in
    ap place_said (dot_at (decimal p.core) (decimal p.line ++ 46 ∷ decimal p.word) (number_from p.core (omega (arith, core)))
    ∙ ap (λ (parts : List (List ℕ)). decimal p.core ∷ parts) (dot_at (decimal p.line) (decimal p.word) (number_from p.line (omega (arith, line)))
    ∙ ap (λ (parts : List (List ℕ)). decimal p.line ∷ parts) (dot_none (decimal p.word) (number_from p.word (omega (arith, word))))))
    ∙ ap (λ (o : Option ℕ). o >>= λ c. exact_range_said 0 255 (decimal p.line) >>= λ l. exact_range_said 0 3 (decimal p.word) >>= λ w. Some (record { core = c; line = l; word = w })) (number_told 47 p.core (omega (arith, core)) (omega (arith, core)))
    ∙ ap (λ (o : Option ℕ). o >>= λ l. exact_range_said 0 3 (decimal p.word) >>= λ w. Some (record { core = p.core; line = l; word = w })) (number_told 255 p.line (omega (arith, line)) (omega (arith, line)))
    ∙ ap (λ (o : Option ℕ). o >>= λ w. Some (record { core = p.core; line = p.line; word = w })) (number_told 3 p.word (omega (arith, word)) (omega (arith, word)))

pub place_word : (p : WordAt) → IsPlace p → IsFrom 33 (place_text p)
place_word p is =
    let core = is.core_below in
    let line = is.line_below in
    let word = is.word_below in
    from_append 33 (decimal p.core) (46 ∷ (decimal p.line ++ 46 ∷ decimal p.word)) (number_word p.core (omega (arith, core)))
    (from_append 33 (decimal p.line) (46 ∷ decimal p.word) (number_word p.line (omega (arith, line))) (number_word p.word (omega (arith, word))))

-- a place of a register
abbrev pub register_text : ℕ → List ℕ
register_text core = decimal core ++ codes ".register"

pub register_told : (core : ℕ) → core < 48 → register_place_said (dot_parts (register_text core)) ≡ Some core
register_told core below =
    ap register_place_said (dot_at (decimal core) (codes "register") (number_from core (omega (arith, below))) ∙ ap (λ (parts : List (List ℕ)). decimal core ∷ parts) (dot_none (codes "register") refl))
    ∙ ap (λ (o : Option ℕ). o >>= λ c. only_if (bytes_eq (codes "register") (codes "register")) c) (number_told 47 core (omega (arith, below)) (omega (arith, below)))

pub register_word : (core : ℕ) → core < 48 → IsFrom 33 (register_text core)
register_word core below = from_append 33 (decimal core) (codes ".register") (number_word core (omega (arith, below))) refl

-- a layout
pub layout_told : (l : Layout) → layout_said (layout_name l) ≡ Some l
layout_told LineFlags = refl
layout_told BitFlags = refl

pub layout_word : (l : Layout) → IsFrom 33 (layout_name l)
layout_word LineFlags = refl
layout_word BitFlags = refl
