-- The bytes of a word: eight, the lowest first (SCC External Architecture Specification: the cores are little-endian).
use Rattle.std.specs.Prelude.{ℕ, ◌/◌, ◌%◌, ◌^◌}

-- a byte of a word
abbrev pub byte_of_word : ℕ → ℕ → ℕ
byte_of_word word at = word / 256 ^ at % 256
