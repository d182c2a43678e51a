-- Lemmas on words and names.
use Rattle.std.proofs.Common.{◌≡◌, ℕ, ◌<◌, ◌≤◌, Bool, true, false, ◌&&◌, List, length, arith, inl, inr, lit<}
use Rattle.std.proofs.lemmas.Bool.{and_parts, cases_lt, leb-true}
use Rattle.std.proofs.lemmas.Bool.Decides.{nat_tests}
use Rattle.std.proofs.lemmas.List.{get_or_past}
use Rattle.std.proofs.lemmas.List.Elements.{All-get_or}
use Rattle.std.proofs.lemmas.List.Sums.{AllPass-from_list_all}
use Rattle.std.proofs.lemmas.Str.{IsUtf8-from_ascii}
use Rattle.std.specs.Prelude.{nat_le, slice_index}
use Rattle.std.specs.Char.{is_ascii_alphabetic}
use Rattle.std.specs.List.{AllPass, list_all}
use Rattle.std.specs.Str.{IsAscii, IsUtf8}
use Rattle.script_reader.specs.Words.{is_name, is_name_byte}

and-right : (a b : Bool) → (a && b) ≡ true → b ≡ true
and-right true b h = h
and-right false b h = cc

name_byte-ascii : (b : ℕ) → is_name_byte b ≡ true → b < 128
name_byte-ascii b h = grind (arith, nat_tests)

ascii-from_pass : (word : List ℕ) → AllPass is_name_byte word → IsAscii word
ascii-from_pass word h i =
    elim (cases_lt i (length word)) [ inl in_word ↦ name_byte-ascii _ (All-get_or (λ b. is_name_byte b ≡ true) word i 0 in_word h) | inr past ↦ rw get_or_past (lit< tt) ]

-- a name is text
pub IsUtf8-from_name : (word : List ℕ) → is_name word ≡ true → IsUtf8 word
IsUtf8-from_name word h = IsUtf8-from_ascii word (ascii-from_pass word (AllPass-from_list_all is_name_byte word (and-right _ _ h)))

-- and has at most 16 bytes
pub name-short : (word : List ℕ) → is_name word ≡ true → length word ≤ 16
name-short word h =
    let front = (and_parts (nat_le 1 (length word) && nat_le (length word) 16 && is_ascii_alphabetic (slice_index word 0)) (list_all is_name_byte word) h).0 in
    let lengths = (and_parts (nat_le 1 (length word) && nat_le (length word) 16) (is_ascii_alphabetic (slice_index word 0)) front).0 in
    leb-true (length word) 16 (and_parts (nat_le 1 (length word)) (nat_le (length word) 16) lengths).1
