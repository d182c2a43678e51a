-- What a monitor takes a word of the buffers for.
use Rattle.std.specs.Prelude.{◌≢◌, ℕ, ◌<◌, Bool, true, false}
use Rattle.scc_base.specs.Communicators.{rule_of}
use Rattle.scc_base.specs.Setups.{SetupView}
use Rattle.scc_base.specs.declared.communicators.CommRule.TheVariants.{Absent}
use Rattle.rank_monitor.specs.declared.uses.Use.{Use}
use Rattle.rank_monitor.specs.declared.uses.Use.TheVariants as word_use
use Rattle.scc_proto.specs.Records.{forget_flags, note_flags}
use Rattle.scc_proto.specs.Stages.{FlagWords}
use Rattle.scc_proto.specs.Words.{Role, HeaderWord, ChunkWord, SignalFlag, SignalFlags, GatherFlag, ReleaseFlag, HeapWord, IdleWord}
use Rattle.scc_base.specs.Layouts.{most_chunk_words}

-- the role that is meant
abbrev pub role_meant : Use → Role
role_meant (word_use.Header owner word) = HeaderWord owner word
role_meant (word_use.Chunk owner word) = ChunkWord owner word
role_meant (word_use.SignalFlag signal by at) = SignalFlag signal by at
role_meant (word_use.SignalFlags signal at) = SignalFlags signal at
role_meant (word_use.Gather comm owner) = GatherFlag comm owner
role_meant (word_use.Release comm owner) = ReleaseFlag comm owner
role_meant word_use.Heap = HeapWord
role_meant word_use.Idle = IdleWord

-- a communicator with a rule, and a rank of the run
pub record IsMemberUse (s : SetupView) (comm owner : ℕ) : Type 0 where
  pub below : comm < 16
  pub present : rule_of s.comms comm ≢ Absent
  pub rank : owner < s.nue

-- the numbers are those of words and of flags that the setup has
abbrev pub IsWordUse : SetupView → Use → Type 0
IsWordUse s (word_use.Header owner word) = word < 4
IsWordUse s (word_use.Chunk owner word) = word < most_chunk_words
IsWordUse s (word_use.Gather comm owner) = IsMemberUse s comm owner
IsWordUse s (word_use.Release comm owner) = IsMemberUse s comm owner
IsWordUse s of = Unit {0}

-- the word is one of bit flags
abbrev pub is_flags_use : Use → Bool
is_flags_use (word_use.SignalFlags signal at) = true
is_flags_use of = false

-- what a load of the word notes of the flag words of its core
abbrev pub note_by : Use → ℕ → FlagWords → FlagWords
note_by (word_use.SignalFlags signal at) value flags = note_flags signal value flags
note_by of value flags = flags

-- what a store of the word leaves noted of the flag words of its core
abbrev pub forget_by : Use → FlagWords → FlagWords
forget_by (word_use.SignalFlags signal at) flags = forget_flags signal flags
forget_by of flags = flags
