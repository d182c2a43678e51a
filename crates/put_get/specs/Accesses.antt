-- The events of whole lines: the loads of a line, and the stores of what leaves the write-combining buffer.
use Rattle.std.specs.Prelude.{ℕ, false, if◌then◌else◌, List, [], ◌∷◌, ◌++◌, Option, None, Some, slice_index, slice_index_or}
use Rattle.scc_base.specs.Places.{LineAt, word_of_line}
use Rattle.scc_base.specs.Events.{load_of, store_of}
use Rattle.scc_base.specs.declared.events.Event.{Event}
use Rattle.write_combine.specs.declared.combiner.Out.{Out}
pub use Rattle.write_combine.specs.Combining.{whole_line}

-- the loads of a line's words, in order
abbrev pub loads_of : LineAt → List ℕ → List Event
loads_of line words =
    load_of (word_of_line line 0) (slice_index words 0) ∷ load_of (word_of_line line 1) (slice_index words 1)
    ∷ load_of (word_of_line line 2) (slice_index words 2) ∷ load_of (word_of_line line 3) (slice_index words 3) ∷ []

-- the store of one word of a line, where it was written
abbrev pub store_of_word : Out → ℕ → List Event
store_of_word o word =
    if slice_index_or o.mask word false then store_of (word_of_line o.line word) (slice_index o.words word) ∷ [] else []

-- the stores of a line: the words that were written, the last word first
abbrev pub stores_of_line : Out → List Event
stores_of_line o = store_of_word o 3 ++ (store_of_word o 2 ++ (store_of_word o 1 ++ store_of_word o 0))

-- the stores of what left the buffer
abbrev pub stores_of : Option Out → List Event
stores_of None = []
stores_of (Some o) = stores_of_line o

-- each of these events was a step of the chip's memory, made after the own events before it
abbrev pub WereSteps : (List Event → Event → Type 0) → List Event → List Event → Type 0
WereSteps stepped before [] = Unit {0}
WereSteps stepped before (e ∷ es) = stepped before e × WereSteps stepped (before ++ e ∷ []) es
