-- The first layer of the grammar: values and names (this project's profile). Lines, words, numbers and bytes in hex are those of texts.
use Rattle.std.specs.Prelude.{ℕ, ◌+◌, ◌-◌, ◌^◌, ◌%◌, ◌==◌, ◌&&◌, ◌||◌, nat_le, Bool, if◌then◌else◌, List, length, drop, slice_index, Option}
use Rattle.std.specs.Char.{is_ascii_alphabetic, is_ascii_digit}
use Rattle.std.specs.Int.{w32, w64, to_le_bytes}
use Rattle.std.specs.List.{list_all}
use Rattle.std.specs.Option.{option_map}
use Rattle.groups.specs.declared.operations.Ty.{Ty}
use Rattle.groups.specs.declared.operations.Ty.TheVariants as ty
use Rattle.texts.specs.Numbers.{decimal_of}

-- the greatest value of a type; the least value is minus this, minus 1
abbrev pub greatest : Ty → ℕ
greatest ty.Int = 2147483647
greatest ty.Long = 9223372036854775807

-- the bytes of the value `size` of a type, in little-endian two's complement
abbrev pub bytes_above : Ty → ℕ → List ℕ
bytes_above ty.Int size = to_le_bytes w32 size
bytes_above ty.Long size = to_le_bytes w64 size

-- the bytes of the value minus `size` of a type, in little-endian two's complement
abbrev pub bytes_below : Ty → ℕ → List ℕ
bytes_below ty.Int size = to_le_bytes w32 ((2 ^ 32 - size) % 2 ^ 32)
bytes_below ty.Long size = to_le_bytes w64 ((2 ^ 64 - size) % 2 ^ 64)

-- the bytes of a value: an optional `-` and 1 to 20 digits, within the type's range
abbrev pub value_of_word : Ty → List ℕ → Option (List ℕ)
value_of_word ty word =
    if slice_index word 0 == 45
    then option_map (bytes_below ty) (decimal_of 20 (greatest ty + 1) (drop 1 word))
    else option_map (bytes_above ty) (decimal_of 20 (greatest ty) word)

-- a byte is a letter, a digit or an underscore
abbrev pub is_name_byte : ℕ → Bool
is_name_byte b = is_ascii_alphabetic b || is_ascii_digit b || b == 95

-- a word is a name: 1 to 16 letters, digits and underscores, of which the first is a letter
abbrev pub is_name : List ℕ → Bool
is_name word = nat_le 1 (length word) && nat_le (length word) 16 && is_ascii_alphabetic (slice_index word 0) && list_all is_name_byte word
