-- The words of the handshake and of the barriers, read by what they are for.
use Rattle.std.specs.Prelude.{ℕ, ◌+◌, ◌*◌, ◌/◌, ◌%◌, nat_lt, if◌then◌else◌, ◌<◌, true, ◌≡◌}
use Rattle.scc_base.specs.Places.{FlagPlace, flag_in}
use Rattle.scc_base.specs.Layouts.{signal_at, gather_at, release_at, first_chunk, chunk_lines}
use Rattle.scc_base.specs.declared.signals.Signal.{Signal}
use Rattle.scc_base.specs.Setups.{SetupView, host_of}
use Rattle.scc_proto.specs.Tables.{put_two, put_signal}
use Rattle.scc_proto.specs.Moves.{Move, DraftHeader, DraftChunk, RaiseSignal, LowerSignal, FlipGather, WriteRelease}
use Rattle.scc_proto.specs.Words.{Memory, are_peers, is_present}

-- the words of the chip by what they are for: by rank, peer, communicator and member in place of core, line and word
pub record View : Type 0 where
  -- the flag of a signal, by the rank that raises it and the rank at whose core it lies
  pub signal : Signal → ℕ → ℕ → ℕ
  -- the header line and the chunk buffer of a rank, by word
  pub header : ℕ → ℕ → ℕ
  pub chunk : ℕ → ℕ → ℕ
  -- the barriers' flags, by communicator and member
  pub gather : ℕ → ℕ → ℕ
  pub release : ℕ → ℕ → ℕ

-- the word in which a flag at a core stands
abbrev pub word_of_flag : Memory → ℕ → FlagPlace → ℕ
word_of_flag memory core flag = memory.word core flag.line flag.word

-- the words of a memory, read by what they are for
abbrev pub view_of : SetupView → Memory → View
view_of s memory = record {
  signal = λ signal by at.
      flag_in (signal_at s.layout signal by).bit (word_of_flag memory (host_of s.hosts at) (signal_at s.layout signal by));
  header = λ r k. memory.word (host_of s.hosts r) 0 k;
  chunk = λ r k. if nat_lt k (4 * chunk_lines s.layout) then memory.word (host_of s.hosts r) (first_chunk s.layout + k / 4) (k % 4) else 0;
  gather = λ comm r. word_of_flag memory (host_of s.hosts r) (gather_at s.layout comm);
  release = λ comm r. word_of_flag memory (host_of s.hosts r) (release_at s.layout comm);
}

-- what a move of rank `me` does to the flags of the signals
abbrev pub signal_shown : ℕ → Move → (Signal → ℕ → ℕ → ℕ) → Signal → ℕ → ℕ → ℕ
signal_shown me (RaiseSignal signal to) flags = put_signal flags signal (put_two (flags signal) me to 1)
signal_shown me (LowerSignal signal by) flags = put_signal flags signal (put_two (flags signal) by me 0)
signal_shown me move flags = flags

-- what a move of rank `me` does to the header lines
abbrev pub header_shown : ℕ → Move → (ℕ → ℕ → ℕ) → ℕ → ℕ → ℕ
header_shown me (DraftHeader k v) header = put_two header me k v
header_shown me move header = header

-- what a move of rank `me` does to the chunk buffers
abbrev pub chunk_shown : ℕ → Move → (ℕ → ℕ → ℕ) → ℕ → ℕ → ℕ
chunk_shown me (DraftChunk k v) chunk = put_two chunk me k v
chunk_shown me move chunk = chunk

-- what a move of rank `me` does to the gather flags
abbrev pub gather_shown : ℕ → Move → (ℕ → ℕ → ℕ) → ℕ → ℕ → ℕ
gather_shown me (FlipGather comm value last) gather = put_two gather comm me value
gather_shown me move gather = gather

-- what a move of rank `me` does to the release flags
abbrev pub release_shown : ℕ → Move → (ℕ → ℕ → ℕ) → ℕ → ℕ → ℕ
release_shown me (WriteRelease comm to place value last) release = put_two release comm to value
release_shown me move release = release

-- what a move of rank `me` does to the words
abbrev pub view_after_move : ℕ → Move → View → View
view_after_move me move view = record {
  signal = signal_shown me move view.signal;
  header = header_shown me move view.header;
  chunk = chunk_shown me move view.chunk;
  gather = gather_shown me move view.gather;
  release = release_shown me move view.release;
}

-- two views have the same flags of all ranks and communicators of the run
pub record SameFlagWords (s : SetupView) (one other : View) : Type 0 where
  pub signal : (signal : Signal) (by at : ℕ) → are_peers s by at ≡ true → one.signal signal by at ≡ other.signal signal by at
  pub gather : (comm r : ℕ) → is_present s comm ≡ true → r < s.nue → one.gather comm r ≡ other.gather comm r
  pub release : (comm r : ℕ) → is_present s comm ≡ true → r < s.nue → one.release comm r ≡ other.release comm r
