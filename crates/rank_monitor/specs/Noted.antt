-- Noted words as a monitor keeps them: of each word the newest value.
use Rattle.std.specs.Prelude.{◌≡◌, ℕ, ◌<◌, true, false, not, List, Option, None, Some, slice_index_or}
use Rattle.scc_base.specs.Heads.{MessageHead}
use Rattle.scc_proto.specs.Messages.{Notes, noted_word, head_of}
use Rattle.scc_proto.specs.Permission.{is_empty, says_head}
use Rattle.rank_monitor.specs.declared.chunks.NotedChunk.{NotedChunk}
use Rattle.rank_monitor.specs.declared.lines.NotedLine.{NotedLine}
use Rattle.scc_base.specs.Layouts.{most_chunk_words}

-- each of the first n slots has what is noted under its number
abbrev pub AreSlotsOf : ℕ → List (Option ℕ) → Notes → Type 0
AreSlotsOf n slots notes = (k : ℕ) → k < n → slice_index_or slots k None ≡ noted_word notes k

-- a monitor's header line has exactly the words that are noted
abbrev pub IsLineOf : NotedLine → Notes → Type 0
IsLineOf line notes = AreSlotsOf 4 line.words notes

-- a monitor's chunk has exactly the words that are noted, and states whether there are any
pub record IsChunkOf (chunk : NotedChunk) (notes : Notes) : Type 0 where
  pub words : AreSlotsOf most_chunk_words chunk.words notes
  pub some : chunk.some ≡ not (is_empty notes)

-- the head that noted words encode, if a message may have it
abbrev pub TellsHead : Notes → Option MessageHead → Type 0
TellsHead notes None = says_head notes ≡ false
TellsHead notes (Some head) = (says_head notes ≡ true) × (head_of notes ≡ head)
