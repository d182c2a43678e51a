-- The words and registers of the chip in one table: the buffer words by core, line and word, and the registers behind
-- them (this project's profile).
use Rattle.std.specs.Prelude.{ℕ, ◌+◌, ◌*◌}

-- the number of a buffer word in the table
abbrev pub word_number : ℕ → ℕ → ℕ → ℕ
word_number core line word = 1024 * core + 4 * line + word

-- the number of a core's register in the table
abbrev pub register_number : ℕ → ℕ
register_number core = 49152 + core

-- how many numbers the words and the registers of the chip have: 1,024 words and a register a core
abbrev pub number_count : ℕ
number_count = 49200
