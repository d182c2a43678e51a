-- What a monitor keeps of the stage of a record.
use Rattle.std.specs.Prelude.{◌≡◌, Bool, true, false, ℕ, ◌*◌, ◌<◌, ◌≤◌, ◌%◌, List, length, Option, None, Some, slice_index, slice_index_or}
use Rattle.scc_base.specs.Heads.{MessageHead, IsHead}
use Rattle.scc_proto.specs.Messages.{Notes, Progress, is_whole}
use Rattle.scc_proto.specs.Stages.{Filling, Raised, Answered, Stage, Idle, Drafting, Sending, Between, Taking, Barrier, InFlight, Record}
use Rattle.rank_monitor.specs.Noted.{IsChunkOf, IsLineOf}
use Rattle.rank_monitor.specs.declared.chunks.NotedChunk.{NotedChunk}
use Rattle.rank_monitor.specs.declared.lines.NotedLine.{NotedLine}
use Rattle.rank_monitor.specs.declared.works.Posted.{Posted}
use Rattle.rank_monitor.specs.declared.works.Standing.{Standing}
use Rattle.rank_monitor.specs.declared.works.Standing.TheVariants as standing
use Rattle.rank_monitor.specs.declared.works.Work.{Work}

-- the rank is in the midst of no call
abbrev pub is_at_rest : Standing → Bool
is_at_rest standing.Idle = true
is_at_rest mid = false

-- a message is being sent that is not posted
abbrev pub is_sending : Standing → Bool
is_sending (standing.Filling to head) = true
is_sending (standing.Raised to head) = true
is_sending (standing.Answered to head) = true
is_sending mid = false

-- the rank is between calls, or between two chunks that it takes
abbrev pub leaves_words : Standing → Bool
leaves_words standing.Idle = true
leaves_words (standing.Between from head) = true
leaves_words mid = false

-- the stage allows words of a header line: no call is unfinished, or a message is half written (a post in flight may still forbid them)
abbrev pub opens_header : Standing → Bool
opens_header standing.Idle = true
opens_header standing.Drafting = true
opens_header mid = false

-- the stage allows words of a chunk (a post in flight may still forbid them)
abbrev pub opens_chunk : Standing → Bool
opens_chunk standing.Idle = true
opens_chunk standing.Drafting = true
opens_chunk (standing.Filling to head) = true
opens_chunk mid = false

-- an unfinished message with this head, of which these bytes are through, in full chunks
pub record IsInHand (size : ℕ) (head : MessageHead) (bytes : List ℕ) (message : Progress) : Type 0 where
  pub head_is : message.head ≡ head
  pub bytes_are : message.bytes ≡ bytes
  pub filled : length bytes ≡ size * message.chunks
  pub within : size * message.chunks ≤ head.len
  pub valid : IsHead head

-- what is kept of a stage: what the rank is in the midst of, the words of its header line and of the chunk in hand, and the bytes of the
-- unfinished message that are through
pub data KeepsStage (size : ℕ) (header : NotedLine) (chunk : NotedChunk) (bytes : List ℕ) : Standing → Stage → Type 0 where
  AtIdle : KeepsStage size header chunk bytes standing.Idle Idle
  AtDraft : (line words : Notes) → IsLineOf header line → IsChunkOf chunk words
      → KeepsStage size header chunk bytes standing.Drafting (Drafting line words)
  AtFill : (to : ℕ) → (head : MessageHead) → (message : Progress) → (words : Notes) → IsInHand size head bytes message
      → IsChunkOf chunk words
      → KeepsStage size header chunk bytes (standing.Filling to head) (Sending to Filling message words)
  AtRaised : (to : ℕ) → (head : MessageHead) → (message : Progress) → (words : Notes) → IsInHand size head bytes message
      → IsChunkOf chunk words
      → is_whole size message words ≡ true → KeepsStage size header chunk bytes (standing.Raised to head) (Sending to Raised message words)
  AtAnswered : (to : ℕ) → (head : MessageHead) → (message : Progress) → (words : Notes) → IsInHand size head bytes message
      → IsChunkOf chunk words
      → is_whole size message words ≡ true
      → KeepsStage size header chunk bytes (standing.Answered to head) (Sending to Answered message words)
  AtPause : (from : ℕ) → (head : MessageHead) → (message : Progress) → IsInHand size head bytes message
      → KeepsStage size header chunk bytes (standing.Between from head) (Between from message)
  AtTake : (from : ℕ) → (head : MessageHead) → (message : Progress) → (words : Notes) → IsInHand size head bytes message
      → IsChunkOf chunk words
      → KeepsStage size header chunk bytes (standing.Taking from head) (Taking from message words)
  AtMeet : (comm seen released : ℕ) → KeepsStage size header chunk bytes (standing.Meeting comm seen released) (Barrier comm seen released)

-- what is kept of a post in flight
abbrev pub KeepsPost : Option Posted → Option InFlight → Type 0
KeepsPost None None = Unit {0}
KeepsPost (Some posted) (Some post) = (posted.to ≡ post.to) × (posted.is_answered ≡ post.is_answered)
KeepsPost posted post = ⊥

-- what is kept of the header words of one rank
abbrev pub KeepsNotes : Option NotedLine → Option Notes → Type 0
KeepsNotes None None = Unit {0}
KeepsNotes (Some line) (Some notes) = IsLineOf line notes
KeepsNotes line notes = ⊥

-- what is kept of the header words of each rank
abbrev pub KeepsSaid : List (Option NotedLine) → (ℕ → Option Notes) → Type 0
KeepsSaid said notes = (j : ℕ) → j < 48 → KeepsNotes (slice_index_or said j None) (notes j)

-- the value of each of the rank's gather flags
abbrev pub KeepsFlags : List ℕ → (ℕ → ℕ) → Type 0
KeepsFlags flags flips = (comm : ℕ) → comm < 16 → slice_index flags comm ≡ flips comm % 2

-- a monitor's work follows this record, except the registers that the rank holds
pub record StandsFor (w : Work) (rec : Record) : Type 0 where
  pub keeps : KeepsStage w.size w.header w.chunk w.bytes.items w.standing rec.stage
  pub post : KeepsPost w.post rec.post
  pub said : KeepsSaid w.said rec.notes
  pub flags : KeepsFlags w.flags rec.flips
