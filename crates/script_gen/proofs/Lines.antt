-- Lines of words: what the reader sees in a line whose words stand one blank apart.
use Rattle.std.proofs.Common.{◌≡◌, ℕ, suc, ◌+◌, ◌%◌, ◌^◌, ◌<◌, ◌≤◌, Bool, true, false, cond, ◌&&◌, ◌||◌, not, List, [], ◌∷◌, ◌++◌, length, map, take, decimal, refl, ◌∙◌, ap, append_assoc, arith}
use Rattle.std.specs.Prelude.{◌==◌, All, nat_le}
use Rattle.std.specs.List.{filter, list_all, position_or_len, slice_split}
use Rattle.std.proofs.lemmas.Bool.{and_parts, and_from, le-leb, cond-true}
use Rattle.std.proofs.lemmas.Bool.Decides.{nat_tests}
use Rattle.std.proofs.lemmas.Fmt.{decimal_by_steps, decimal_nonempty}
use Rattle.std.proofs.lemmas.List.Elements.{All-nil, All-cons}
use Rattle.std.proofs.lemmas.List.Splits.{slice_split_none, slice_split_at}
use Rattle.texts.specs.Cuts.{is_blank, is_text, is_text_byte, lines_of, without_comment, words_of}
use Rattle.script_gen.specs.Texts.{text_of_lines}

-- a byte of a word of a generated script: a letter, a digit or a sign among others, and neither a blank nor a `#`
abbrev pub ink : ℕ → Bool
ink b = nat_le 43 b && nat_le b 122

abbrev pub IsWord : List ℕ → Type 0
IsWord w = (list_all ink w ≡ true) × ((length w == 0) ≡ false)

abbrev pub AreWords : List (List ℕ) → Type 0
AreWords [] = Unit {0}
AreWords (w ∷ ws) = IsWord w × AreWords ws

-- words, one blank apart
abbrev pub line_of : List (List ℕ) → List ℕ
line_of [] = []
line_of (w ∷ []) = w
line_of (w ∷ v ∷ vs) = w ++ 32 ∷ line_of (v ∷ vs)

list_all-append : (p : ℕ → Bool) (xs ys : List ℕ) → list_all p xs ≡ true → list_all p ys ≡ true → list_all p (xs ++ ys) ≡ true
list_all-append p [] ys all more = more
list_all-append p (x ∷ xs) ys all more =
    let parts = and_parts (p x) (list_all p xs) all in
    and_from (p x) (list_all p (xs ++ ys)) parts.0 (list_all-append p xs ys parts.1 more)

all_also : (p q : ℕ → Bool) (xs : List ℕ) → ((b : ℕ) → p b ≡ true → q b ≡ true) → list_all p xs ≡ true → list_all q xs ≡ true
all_also p q [] also all = refl
all_also p q (x ∷ xs) also all =
    let parts = and_parts (p x) (list_all p xs) all in
    and_from (q x) (list_all q xs) (also x parts.0) (all_also p q xs also parts.1)

none_pass : (p q : ℕ → Bool) (xs : List ℕ) → ((b : ℕ) → p b ≡ true → q b ≡ false) → list_all p xs ≡ true → All (λ b. q b ≡ false) xs
none_pass p q [] other all = All-nil (λ b. q b ≡ false)
none_pass p q (b ∷ xs) other all =
    let parts = and_parts (p b) (list_all p xs) all in
    All-cons (λ b. q b ≡ false) b xs (other b parts.0) (none_pass p q xs other parts.1)

one_ink : (n : ℕ) → 43 ≤ n → n ≤ 122 → list_all ink (n ∷ []) ≡ true
one_ink n low high = and_from (ink n) true (and_from _ _ (le-leb 43 n low) (le-leb n 122 high)) refl

decimal_ink : (n : ℕ) → n < 2 ^ 64 → list_all ink (decimal n) ≡ true
decimal_ink n small =
    decimal_by_steps (λ m ds. list_all ink ds ≡ true) (λ m low. one_ink (48 + m) (omega arith) (omega arith))
    (λ m ds high all. list_all-append ink ds ((48 + m % 10) ∷ []) all (one_ink (48 + m % 10) (omega arith) (omega arith))) n small

some_bytes : (n : ℕ) → 0 < n → (n == 0) ≡ false
some_bytes n some = grind (arith, nat_tests)

pub decimal_word : (n : ℕ) → n ≤ 65535 → IsWord (decimal n)
decimal_word n small = (decimal_ink n (omega arith), some_bytes (length (decimal n)) (decimal_nonempty n (omega arith)))

-- a byte of a line of words
abbrev plain : ℕ → Bool
plain b = ink b || b == 32

ink_plain : (b : ℕ) → ink b ≡ true → plain b ≡ true
ink_plain b is = grind (arith, nat_tests)

ink_not_blank : (b : ℕ) → ink b ≡ true → is_blank b ≡ false
ink_not_blank b is = grind (arith, nat_tests)

plain_text : (b : ℕ) → plain b ≡ true → is_text_byte b ≡ true
plain_text b is = grind (arith, nat_tests)

plain_no_comment : (b : ℕ) → plain b ≡ true → (b == 35) ≡ false
plain_no_comment b is = grind (arith, nat_tests)

plain_no_feed : (b : ℕ) → plain b ≡ true → (b == 10) ≡ false
plain_no_feed b is = grind (arith, nat_tests)

line_plain : (ws : List (List ℕ)) → AreWords ws → list_all plain (line_of ws) ≡ true
line_plain [] are = refl
line_plain (w ∷ []) (is, rest) = all_also ink plain w ink_plain is.0
line_plain (w ∷ v ∷ vs) (is, rest) =
    list_all-append plain w (32 ∷ line_of (v ∷ vs)) (all_also ink plain w ink_plain is.0) (and_from (plain 32) _ refl (line_plain (v ∷ vs) rest))

-- no part of it is a comment
no_comment : (xs : List ℕ) → list_all plain xs ≡ true → without_comment xs ≡ xs
no_comment [] all = refl
no_comment (x ∷ xs) all =
    let parts = and_parts (plain x) (list_all plain xs) all in
    let next : 1 + position_or_len (λ b. b == 35) xs ≡ suc (position_or_len (λ b. b == 35) xs) = omega arith in
    ap (λ (b : Bool). take (cond (not b) (1 + position_or_len (λ b. b == 35) xs) 0) (x ∷ xs)) (plain_no_comment x parts.0)
    ∙ ap (λ (n : ℕ). take n (x ∷ xs)) next
    ∙ ap (λ (l : List ℕ). x ∷ l) (no_comment xs parts.1)

pub text_line : (ws : List (List ℕ)) → AreWords ws → is_text (line_of ws) ≡ true
text_line ws are =
    let all = line_plain ws are in
    ap (list_all is_text_byte) (no_comment (line_of ws) all) ∙ all_also plain is_text_byte (line_of ws) plain_text all

parts_of_line : (w : List ℕ) (ws : List (List ℕ)) → AreWords (w ∷ ws) → slice_split is_blank (line_of (w ∷ ws)) ≡ w ∷ ws
parts_of_line w [] (is, rest) = slice_split_none is_blank w (none_pass ink is_blank w ink_not_blank is.0)
parts_of_line w (v ∷ vs) (is, rest) =
    slice_split_at is_blank w 32 (line_of (v ∷ vs)) (none_pass ink is_blank w ink_not_blank is.0) refl
    ∙ ap (λ (t : List (List ℕ)). w ∷ t) (parts_of_line v vs rest)

none_empty : (ws : List (List ℕ)) → AreWords ws → filter (λ word. not (length word == 0)) ws ≡ ws
none_empty [] are = refl
none_empty (w ∷ ws) (is, rest) =
    cond-true _ _ _ (ap not is.1) ∙ ap (λ (t : List (List ℕ)). w ∷ t) (none_empty ws rest)

-- the words of a line of words
pub words_of_line : (w : List ℕ) (ws : List (List ℕ)) → AreWords (w ∷ ws) → words_of (line_of (w ∷ ws)) ≡ w ∷ ws
words_of_line w ws are =
    ap (λ (line : List ℕ). filter (λ word. not (length word == 0)) (slice_split is_blank line)) (no_comment (line_of (w ∷ ws)) (line_plain (w ∷ ws) are))
    ∙ ap (filter (λ word. not (length word == 0))) (parts_of_line w ws are)
    ∙ none_empty (w ∷ ws) are

-- lines of words
abbrev pub AreLines : List (List (List ℕ)) → Type 0
AreLines [] = Unit {0}
AreLines (ws ∷ lines) = AreWords ws × AreLines lines

-- the lines of a text of lines: those, and what stands behind the last line feed
pub lines_of_text : (lines : List (List (List ℕ))) → AreLines lines → lines_of (text_of_lines (map line_of lines)) ≡ map line_of lines ++ [] ∷ []
lines_of_text [] are = refl
lines_of_text (ws ∷ lines) (is, rest) =
    ap lines_of (append_assoc (line_of ws) (10 ∷ []) (text_of_lines (map line_of lines)))
    ∙ slice_split_at (λ b. b == 10) (line_of ws) 10 (text_of_lines (map line_of lines)) (none_pass plain (λ b. b == 10) (line_of ws) plain_no_feed (line_plain ws is)) refl
    ∙ ap (λ (t : List (List ℕ)). line_of ws ∷ t) (lines_of_text lines rest)
