-- The lines of the heap, as a lab names them (this project's profile: lines 225 to 255 of a core's buffer have the numbers 0 to 30).
use Rattle.std.specs.Prelude.{ℕ, ◌+◌, ◌-◌, ◌<◌, ◌≤◌}
use Rattle.scc_base.specs.Places.{first_heap, LineAt}

-- a line of the heap of one of the chip's cores
pub record IsInHeap (line : LineAt) : Type 0 where
  pub core_below : line.core < 48
  pub heap : first_heap ≤ line.line
  pub line_below : line.line < 256

-- the heap line of a number
abbrev pub heap_line : ℕ → ℕ → LineAt
heap_line core number = record { core = core; line = first_heap + number }

-- the number of a heap line
abbrev pub heap_number : LineAt → ℕ
heap_number line = line.line - first_heap
