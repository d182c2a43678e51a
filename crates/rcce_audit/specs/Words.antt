-- The words of a log's lines (this project's profile).
use Rattle.std.specs.Prelude.{ℕ, ◌==◌, ◌&&◌, ◌||◌, nat_le, not, Bool, if◌then◌else◌, List, length, codes, decimal, Option, Some, None, option_and_then}
use Rattle.std.specs.List.{list_all}
use Rattle.std.specs.Str.{bytes_eq}
use Rattle.scc_base.specs.declared.kinds.Kind.{Kind}
use Rattle.scc_base.specs.declared.kinds.Kind.TheVariants.{Plain, Bcast, Reduce, AllUp, AllDown}
use Rattle.texts.specs.Cuts.{cut_by}
use Rattle.texts.specs.Hex.{bytes_of}
use Rattle.texts.specs.Numbers.{number_of}

-- the second step, if the first gave a value
infixl 10 ◌>>=◌
abbrev pub ◌>>=◌ : {A B : Type 0} → Option A → (A → Option B) → Option B
o >>= next = option_and_then next o

-- a value, if a test holds
abbrev pub only_if : {A : Type 0} → Bool → A → Option A
only_if test value = if test then Some value else None

-- the words of a line: what stands between its blanks
abbrev pub log_words_of : List ℕ → List (List ℕ)
log_words_of line = cut_by 32 line

-- a number is said by its own decimal digits, without leading zeros
abbrev pub exact_spelling : List ℕ → ℕ → Option ℕ
exact_spelling word n = only_if (bytes_eq (decimal n) word) n

-- a word as a number, in decimal without leading zeros
abbrev pub exact_number_said : List ℕ → Option ℕ
exact_number_said word = number_of word >>= exact_spelling word

-- a number from a range
abbrev pub exact_range_said : ℕ → ℕ → List ℕ → Option ℕ
exact_range_said low high word = exact_number_said word >>= λ n. only_if (nat_le low n && nat_le n high) n

-- a kind of message, by its name
abbrev pub kind_said : List ℕ → Option Kind
kind_said word =
    if bytes_eq word (codes "plain") then Some Plain
    else if bytes_eq word (codes "bcast") then Some Bcast
    else if bytes_eq word (codes "reduce") then Some Reduce
    else if bytes_eq word (codes "allup") then Some AllUp
    else if bytes_eq word (codes "alldown") then Some AllDown
    else None

-- no capital letter stands in the word
abbrev pub is_lower : List ℕ → Bool
is_lower word = list_all (λ b. nat_le b 57 || nat_le 97 b) word

-- bytes: none for `-`, else two hex digits each, in lower case
abbrev pub exact_hex_said : List ℕ → Option (List ℕ)
exact_hex_said word = if not (length word == 0) && is_lower word then bytes_of word else None
