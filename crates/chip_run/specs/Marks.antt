-- How many threads a round asks for, and when a thread lets another one run (this project's profile).
use Rattle.std.specs.Prelude.{◌≡◌, ℕ, zero, suc, ◌+◌, ◌<◌, ◌≤◌, ◌⊎◌, if◌then◌else◌, leb, max, min, List, [], ◌∷◌, Option, Some, None}
use Rattle.std.specs.Int.{div_ceil}
use Rattle.chip_run.specs.declared.members.Member.{Member}

-- What calls on the marks of a round show.
pub record MarkFacts : Type 1 where
  -- the thread whose first row is that of this rank has marked that it began
  pub began : ℕ → Type 0
  -- so many threads had begun, when they were counted
  pub counted : ℕ → Type 0
  -- it was marked that only so many had begun
  pub marked : ℕ → Type 0
  -- so many were found marked, and 0 where nothing was
  pub found : ℕ → Type 0
  -- another thread was let run
  pub yielded : Type 0

-- how many threads a crew has where it asks for some: each has as many rows as are needed so that these are enough
abbrev pub threads_of : ℕ → ℕ → ℕ
threads_of ranks threads = div_ceil ranks (div_ceil ranks threads)

-- how many threads the next round asks for: as many as had begun where that was marked, and else as many as this one
abbrev pub next_threads : ℕ → ℕ → ℕ
next_threads asked zero = asked
next_threads asked (suc begun) = suc begun

-- the next round asks for so many, by what was found marked in this one; for one at the least
abbrev pub AsksNext : MarkFacts → ℕ → ℕ → Type 0
AsksNext m asked threads = (begun : ℕ) × m.found begun × (threads ≡ max 1 (next_threads asked begun))

-- how many threads the round after n rounds of a crew asks for: the first one asks for a thread for each rank
abbrev pub ThreadsAfter : MarkFacts → ℕ → ℕ → ℕ → Type 0
ThreadsAfter m ranks zero threads = threads ≡ ranks
ThreadsAfter m ranks (suc n) threads = (before : ℕ) × ThreadsAfter m ranks n before × AsksNext m (threads_of ranks before) threads

-- the row of this rank is in a thread that has marked that it began, with the rows of `each` ranks
abbrev pub BeganFor : MarkFacts → ℕ → ℕ → Type 0
BeganFor m each rank = (first : ℕ) × (first ≤ rank) × (rank < first + each) × m.began first

-- it was found marked that threads were missing
abbrev pub FoundShort : MarkFacts → Type 0
FoundShort m = (begun : ℕ) × (0 < begun) × m.found begun

-- the threads that had begun were counted, and their number was marked where some were missing
abbrev pub MarksShort : MarkFacts → ℕ → Type 0
MarksShort m asked = (begun : ℕ) × m.counted begun × ((asked ≤ begun) ⊎ m.marked begun)

-- what a thread does after `failed` failed turns in a row, in a round that asks for `asked` threads
pub record Yields (m : MarkFacts) (asked spin_limit failed : ℕ) : Type 0 where
  -- from `spin_limit` on it lets another thread run, unless threads are missing
  pub yields : spin_limit ≤ failed → 1 < asked → FoundShort m ⊎ m.yielded
  -- before the last one it counts the threads
  pub counts : failed ≡ 999 → spin_limit ≤ failed → 1 < asked → FoundShort m ⊎ MarksShort m asked

-- from how many failed turns in a row on a thread lets another one run: later where each can have a processor of its own
abbrev pub spin_limit_by : ℕ → Option ℕ → ℕ
spin_limit_by asked None = 16
spin_limit_by asked (Some processors) = if leb asked processors then 64 else 16

-- the fewest failed turns in a row of some members, of which a thousand end a row
abbrev pub least_failed : {A : Type 0} → List (Member A) → ℕ
least_failed [] = 1000
least_failed (m ∷ rest) = min m.failed (least_failed rest)
