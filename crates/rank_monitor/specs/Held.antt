-- The words of bit flags that a monitor keeps under held registers.
use Rattle.std.specs.Prelude.{◌≡◌, ℕ, ◌<◌, List, Option, None, option_map, slice_index_or}
use Rattle.scc_proto.specs.Stages.{FlagWords}
use Rattle.rank_monitor.specs.declared.held.NotedFlags.{NotedFlags}

-- the words of bit flags of a core as a record notes them
abbrev pub flag_words : NotedFlags → FlagWords
flag_words flags = record { sent = flags.sent; ready = flags.ready }

-- for each core the monitor keeps what the record has: whether the rank holds its register, and what it noted under it
abbrev pub KeepsHeld : List (Option NotedFlags) → (ℕ → Option FlagWords) → Type 0
KeepsHeld held records = (core : ℕ) → core < 48 → option_map flag_words (slice_index_or held core None) ≡ records core
