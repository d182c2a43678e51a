-- Words, lines and runs of lines of the message passing buffer, as numbers (SCC External Architecture
-- Specification: 48 cores, 256 lines of 32 bytes a core; the four words of a line are this project's profile).
use Rattle.std.specs.Prelude.{Bool, ◌==◌, ◌&&◌, ℕ, ◌+◌, ◌<◌, ◌≤◌, Option, Some, None, IfSome}
use Rattle.std.specs.Int.{bit_at}

-- a word of a message passing buffer: the core, the line and the word in it
pub record WordAt : Type 0 where
  pub core : ℕ
  pub line : ℕ
  pub word : ℕ

-- a line of a message passing buffer: the core and the line
pub record LineAt : Type 0 where
  pub core : ℕ
  pub line : ℕ

-- a run of lines, the same on each core
pub record LineRun : Type 0 where
  pub first : ℕ
  pub lines : ℕ

-- a flag at any core: a whole word of a line, or this bit of it
pub record FlagPlace : Type 0 where
  pub line : ℕ
  pub word : ℕ
  pub bit : Option ℕ

-- a word that the chip has
pub record IsPlace (place : WordAt) : Type 0 where
  pub core_below : place.core < 48
  pub line_below : place.line < 256
  pub word_below : place.word < 4

-- a line that the chip has
pub record IsLine (line : LineAt) : Type 0 where
  pub core_below : line.core < 48
  pub line_below : line.line < 256

-- the first line of the heap, which goes up to the last line (this project's profile)
abbrev pub first_heap : ℕ
first_heap = 225

-- a buffer that a program may own: at least one line, all of them heap lines
pub record IsBuf (run : LineRun) : Type 0 where
  pub some_lines : 1 ≤ run.lines
  pub from_heap : first_heap ≤ run.first
  pub to_heap : run.first + run.lines ≤ 256

-- a flag that a line has
pub record IsFlagPlace (flag : FlagPlace) : Type 0 where
  pub line_below : flag.line < 256
  pub word_below : flag.word < 4
  pub bit_below : IfSome flag.bit (λ b. b < 64)

-- a word of a line
abbrev pub word_of_line : LineAt → ℕ → WordAt
word_of_line line word = record { core = line.core; line = line.line; word = word }

-- the line of a word
abbrev pub line_of_word : WordAt → LineAt
line_of_word place = record { core = place.core; line = place.line }

-- the word of a core's buffer that holds a flag
abbrev pub flag_word : ℕ → FlagPlace → WordAt
flag_word core flag = record { core = core; line = flag.line; word = flag.word }

-- the value of a flag in its word: the word, or the flag's bit of it
abbrev pub flag_in : Option ℕ → ℕ → ℕ
flag_in None word = word
flag_in (Some b) word = bit_at word b

-- the place that stands for a core's test-and-set register
abbrev pub register_place : ℕ → WordAt
register_place core = record { core = core; line = 0; word = 0 }

-- whether two lines are one
abbrev pub same_line : LineAt → LineAt → Bool
same_line a b = a.core == b.core && a.line == b.line
