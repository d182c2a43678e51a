-- The tables of the two layouts of the message passing buffer (this project's profile).
use Rattle.std.specs.Prelude.{ℕ, ◌+◌, ◌-◌, ◌*◌, ◌/◌, ◌%◌, Some, None}
use Rattle.scc_base.specs.Places.{FlagPlace, first_heap}
use Rattle.scc_base.specs.declared.layouts.Layout.{Layout}
use Rattle.scc_base.specs.declared.layouts.Layout.TheVariants.{LineFlags, BitFlags}
use Rattle.scc_base.specs.declared.signals.Signal.{Signal}
use Rattle.scc_base.specs.declared.signals.Signal.TheVariants.{Sent, Ready}

-- the flag that fills a line
abbrev pub line_flag : ℕ → FlagPlace
line_flag line = record { line = line; word = 0; bit = None }

-- a flag that is a bit of a word of line 1
abbrev pub bit_flag : ℕ → ℕ → FlagPlace
bit_flag word bit = record { line = 1; word = word; bit = Some bit }

-- a barrier's flag: communicators 0 to 7 have word 0 of eight lines, communicators 8 to 15 word 1 of the same
abbrev pub barrier_flag : ℕ → ℕ → FlagPlace
barrier_flag first comm = record { line = first + comm % 8; word = comm / 8; bit = None }

-- the line of the first of a signal's flags, where each fills a line
abbrev pub first_signal : Signal → ℕ
first_signal Sent = 1
first_signal Ready = 49

-- the word of line 1 that has a signal's flags as bits
abbrev pub signal_word : Signal → ℕ
signal_word Sent = 0
signal_word Ready = 1

-- the flag of a signal at the core of the rank that waits for it, by the rank that raises it: `sent`, by the sender,
-- tells the receiver of a chunk; `ready`, by the receiver, tells the sender that its chunk is taken
abbrev pub signal_at : Layout → Signal → ℕ → FlagPlace
signal_at LineFlags signal by = line_flag (first_signal signal + by)
signal_at BitFlags signal by = bit_flag (signal_word signal) by

-- the line of the gather flag of communicator 0
abbrev pub first_gather : Layout → ℕ
first_gather LineFlags = 97
first_gather BitFlags = 2

-- the line of the release flag of communicator 0
abbrev pub first_release : Layout → ℕ
first_release LineFlags = 105
first_release BitFlags = 10

-- the gather flag of a communicator, at a member's core: it tells that the member has entered a barrier
abbrev pub gather_at : Layout → ℕ → FlagPlace
gather_at layout comm = barrier_flag (first_gather layout) comm

-- the release flag of a communicator, at a member's core: it tells that the member may leave the barrier
abbrev pub release_at : Layout → ℕ → FlagPlace
release_at layout comm = barrier_flag (first_release layout) comm

-- the chunk buffer goes from this line up to the heap
abbrev pub first_chunk : Layout → ℕ
first_chunk LineFlags = 113
first_chunk BitFlags = 18

-- how many lines the chunk buffer has
abbrev pub chunk_lines : Layout → ℕ
chunk_lines layout = first_heap - first_chunk layout

-- how many bytes of a message the chunk buffer holds at once
abbrev pub chunk_size : Layout → ℕ
chunk_size layout = 32 * chunk_lines layout

-- the most bytes of a chunk in either layout
abbrev pub most_chunk : ℕ
most_chunk = chunk_size BitFlags

-- the most words of a chunk in either layout
abbrev pub most_chunk_words : ℕ
most_chunk_words = most_chunk / 8
