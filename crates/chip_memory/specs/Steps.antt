-- What an event finds at its word or register, and whether it is a step, as tests (this project's profile).
use Rattle.std.specs.Prelude.{◌≡◌, ℕ, ◌<◌, ◌==◌, ◌&&◌, ◌||◌, Bool, true, List, length}
use Rattle.scc_base.specs.Numbers.{number_count, register_number, word_number}
use Rattle.scc_base.specs.Places.{IsPlace, WordAt}
use Rattle.scc_base.specs.declared.events.Access.{Access}
use Rattle.scc_base.specs.declared.events.Access.TheVariants.{Load, Store, Take, Free}
use Rattle.scc_base.specs.declared.events.Event.{Event}
use Rattle.scc_proto.specs.Histories.{memory_from}
use Rattle.scc_proto.specs.Memories.{memory_of}
use Rattle.scc_proto.specs.Words.{Memory, RankEvent, word_at, zeros}

-- what an access finds: the word at its place, or the register of its core
abbrev pub stands_by : Access → WordAt → Memory → ℕ
stands_by Load place memory = word_at memory place
stands_by Store place memory = word_at memory place
stands_by Take place memory = memory.register place.core
stands_by Free place memory = memory.register place.core

-- what an event finds
abbrev pub stands_at : Memory → Event → ℕ
stands_at memory e = stands_by e.access e.place memory

-- an access with `value` is a step if `found` is there: a load tells what it found, a take has 1 if it found 0, and 0
-- if it found 1, and a store and a free always are
abbrev pub is_step_by : Access → (value found : ℕ) → Bool
is_step_by Load value found = found == value
is_step_by Store value found = true
is_step_by Take value found = (value == 1 && found == 0) || (value == 0 && found == 1)
is_step_by Free value found = true

-- the event is a step of the memory, as a test
abbrev pub is_step : Memory → Event → Bool
is_step memory e = is_step_by e.access e.value (stands_at memory e)

-- the chip has the word at the place of an access, or the register of its core
abbrev pub IsOnChip : Access → WordAt → Type 0
IsOnChip Load place = IsPlace place
IsOnChip Store place = IsPlace place
IsOnChip Take place = place.core < 48
IsOnChip Free place = place.core < 48

-- the number in the table of the word or register that an access is at
abbrev pub number_of_access : Access → WordAt → ℕ
number_of_access Load place = word_number place.core place.line place.word
number_of_access Store place = word_number place.core place.line place.word
number_of_access Take place = register_number place.core
number_of_access Free place = register_number place.core

-- a list has the numbers of all words and registers, as these events have made them of words that were all 0
pub record AreWordsOf (run : List RankEvent) (numbers : List ℕ) : Type 0 where
  pub count : length numbers ≡ number_count
  pub words : memory_of numbers ≡ memory_from zeros run
