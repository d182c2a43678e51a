-- The words of a message's bytes: eight bytes a word, the lowest first (SCC External Architecture
-- Specification: the cores are little-endian).
use Rattle.std.specs.Prelude.{ℕ, ◌+◌, ◌*◌, ◌/◌, ◌%◌, List, [], ◌∷◌, slice_index}
use Rattle.scc_base.specs.Bytes.{byte_of_word}

-- the word of the eight bytes from a byte on; bytes past the end are 0
abbrev pub word_of_bytes : List ℕ → ℕ → ℕ
word_of_bytes bytes at =
    (slice_index bytes at + 0x100 * slice_index bytes (at + 1) + 0x10000 * slice_index bytes (at + 2)
    + 0x1000000 * slice_index bytes (at + 3))
    + 0x100000000 * (slice_index bytes (at + 4) + 0x100 * slice_index bytes (at + 4 + 1) + 0x10000 * slice_index bytes (at + 4 + 2)
    + 0x1000000 * slice_index bytes (at + 4 + 3))

-- the words of the line of 32 bytes from a byte on
abbrev pub words_at : List ℕ → ℕ → List ℕ
words_at bytes at =
    word_of_bytes bytes at ∷ word_of_bytes bytes (at + 8) ∷ word_of_bytes bytes (at + 16) ∷ word_of_bytes bytes (at + 24) ∷ []

-- a byte of a line
abbrev pub byte_of_line : List ℕ → ℕ → ℕ
byte_of_line words at = byte_of_word (slice_index words (at / 8)) (at % 8)
