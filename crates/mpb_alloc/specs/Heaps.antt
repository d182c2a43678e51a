-- The symmetric heap of one core: which of the heap's lines are free, and which buffers are out. That a
-- shared buffer has one offset on all cores is of the RCCE specification 2.0; the lines and the rule of
-- the lowest run are this project's profile.
use Rattle.std.specs.Prelude.{◌≡◌, ℕ, ◌+◌, ◌-◌, ◌/◌, ◌<◌, ◌≤◌, Bool, ◌==◌, ◌&&◌, nat_lt, nat_le, if◌then◌else◌, List, [], ◌∷◌, ◌++◌, Option, None, Some, Result, Ok, Err, max, min, find, is_some, not}
use Rattle.scc_base.specs.Places.{LineRun, first_heap}
use Rattle.mpb_alloc.specs.declared.heap.Run.{Run}
use Rattle.mpb_alloc.specs.declared.heap.MallocFault.{MallocFault}
use Rattle.mpb_alloc.specs.declared.heap.MallocFault.TheVariants.{Empty, Full}

-- the lines of a buffer
abbrev pub run_of_lines : LineRun → Run
run_of_lines b = record { first = b.first; lines = b.lines }

-- the line behind a run
abbrev pub line_after : Run → ℕ
line_after r = r.first + r.lines

-- what is seen of a heap: the runs that are free, in order, and the buffers that are out
pub record LineHeap : Type 0 where
  pub free : List Run
  pub out : List Run

-- no buffer is out
abbrev pub all_free : LineHeap
all_free = record { free = (record { first = first_heap; lines = 31 }) ∷ []; out = [] }

-- the lines that a buffer of n bytes takes
abbrev pub lines_for : ℕ → ℕ
lines_for bytes = (bytes + 31) / 32

-- a run has this line
abbrev pub has_line : ℕ → Run → Bool
has_line line r = nat_le r.first line && nat_lt line (line_after r)

-- the runs stand in order from this line on up to 255; none is empty, none touches the next
abbrev pub StandApart : ℕ → List Run → Type 0
StandApart low [] = Unit {0}
StandApart low (r ∷ rs) = (low ≤ r.first) × (0 < r.lines) × (line_after r ≤ 256) × StandApart (line_after r + 1) rs

-- the run has a line, and all its lines are of the heap
abbrev pub IsHeapRun : Run → Type 0
IsHeapRun r = (first_heap ≤ r.first) × (0 < r.lines) × (line_after r ≤ 256)

-- each run is such
abbrev pub StandWithin : List Run → Type 0
StandWithin [] = Unit {0}
StandWithin (r ∷ rs) = IsHeapRun r × StandWithin rs

-- how many lines the runs have
abbrev pub lines_in_runs : List Run → ℕ
lines_in_runs [] = 0
lines_in_runs (r ∷ rs) = r.lines + lines_in_runs rs

-- how many of the runs have this line
abbrev pub times_at : ℕ → List Run → ℕ
times_at line [] = 0
times_at line (r ∷ rs) = (if has_line line r then 1 else 0) + times_at line rs

-- each line of the heap is free, or is in one buffer that is out
pub record IsHeap (h : LineHeap) : Type 0 where
  pub free_apart : StandApart first_heap h.free
  pub out_within : StandWithin h.out
  pub all_lines : lines_in_runs h.free + lines_in_runs h.out ≡ 31
  pub each_once : (line : ℕ) → first_heap ≤ line → line < 256 → times_at line h.free + times_at line h.out ≡ 1

-- the lowest run of at least `lines` lines
abbrev pub lowest_fit : ℕ → List Run → Option Run
lowest_fit lines free = find (λ r. nat_le lines r.lines) free

-- the buffer at the first lines of a run
abbrev pub front_of : ℕ → Run → LineRun
front_of lines r = record { first = r.first; lines = lines }

-- the lines of the longest run
abbrev pub longest_of : List Run → ℕ
longest_of [] = 0
longest_of (r ∷ rs) = max r.lines (longest_of rs)

-- a run without its first lines, if anything is left
abbrev pub rest_of_run : ℕ → Run → List Run
rest_of_run lines r =
    if r.lines == lines then [] else (record { first = r.first + lines; lines = r.lines - lines }) ∷ []

-- the free runs after the front of the lowest one that fits was taken
abbrev pub taken_from : ℕ → List Run → List Run
taken_from lines [] = []
taken_from lines (r ∷ rs) =
    if nat_le lines r.lines then rest_of_run lines r ++ rs else r ∷ taken_from lines rs

-- one run from the first line of the two to the last
abbrev pub joined_runs : Run → Run → Run
joined_runs a b =
    record {
      first = min a.first b.first;
      lines = max (line_after a) (line_after b) - min a.first b.first;
    }

-- the free runs after one more came: it is joined_runs with each that it touches
abbrev pub given_back : Run → List Run → List Run
given_back b [] = b ∷ []
given_back b (r ∷ rs) =
    if nat_lt (line_after b) r.first then b ∷ r ∷ rs
    else (if nat_lt (line_after r) b.first then r ∷ given_back b rs else given_back (joined_runs b r) rs)

-- the same buffer
abbrev pub is_run : Run → Run → Bool
is_run a b = a.first == b.first && a.lines == b.lines

-- the buffers that are out after this one came back
abbrev pub without_buffer : Run → List Run → List Run
without_buffer b [] = []
without_buffer b (r ∷ rs) = if is_run b r then rs else r ∷ without_buffer b rs

-- the buffer that a fitting run gives, or the fault where none fits
abbrev pub answer_by : ℕ → ℕ → Option Run → Result LineRun MallocFault
answer_by lines longest None = Err (Full lines longest)
answer_by lines longest (Some r) = Ok (front_of lines r)

-- the answer to a call for `lines` lines: the front of the lowest run that has them, or that the heap is full
abbrev pub answer_for : ℕ → List Run → Result LineRun MallocFault
answer_for lines free = answer_by lines (longest_of free) (lowest_fit lines free)

-- the answer to a call for n bytes: none is refused, and else they are given in whole lines
abbrev pub malloc_answer : LineHeap → ℕ → Result LineRun MallocFault
malloc_answer h bytes = if bytes == 0 then Err Empty else answer_for (lines_for bytes) h.free

-- whether a buffer of n bytes can be had
abbrev pub fits_in : LineHeap → ℕ → Bool
fits_in h bytes = not (bytes == 0) && is_some (lowest_fit (lines_for bytes) h.free)
