-- What holds of the record of any list of permitted events, whatever the words are.
use Rattle.std.specs.Prelude.{◌≡◌, ℕ, ◌+◌, ◌*◌, ◌<◌, ◌≤◌, ◌⊎◌, Bool, true, false, ◌==◌, if◌then◌else◌, List, Option, Some, None, length, All}
use Rattle.scc_base.specs.Calls.{DataCall, Send, Recv, Post, Bar}
use Rattle.scc_base.specs.Heads.{MessageHead}
use Rattle.scc_base.specs.Setups.{SetupView, place_of}
use Rattle.scc_proto.specs.Messages.{Notes, Progress, fresh_message, is_whole, is_head, is_post_head, barriers_of}
use Rattle.scc_proto.specs.Stages.{Part, Filling, Raised, Answered, Stage, Drafting, Sending, Between, Taking, Barrier, InFlight, Record}
use Rattle.scc_proto.specs.Words.{are_peers, is_present}
use Rattle.scc_proto.specs.Records.{chunk_of, last_of}

-- each of these numbers is a byte
abbrev pub AreBytes : List ℕ → Type 0
AreBytes bytes = All (λ b. b < 256) bytes

-- a message with another rank, whole: a head that messages have, and as many bytes as it says
pub record IsWholeMessage (s : SetupView) (me other : ℕ) (test : MessageHead → Bool) (head : MessageHead) (bytes : List ℕ) : Type 0 where
  pub peers : are_peers s me other ≡ true
  pub valid : test head ≡ true
  pub long : length bytes ≡ head.len
  pub each : AreBytes bytes

-- a call that a rank of the run can make, with all its bytes
abbrev pub IsWholeCall : SetupView → ℕ → DataCall → Type 0
IsWholeCall s me (Send to head bytes) = IsWholeMessage s me to is_head head bytes
IsWholeCall s me (Recv from head bytes) = IsWholeMessage s me from is_head head bytes
IsWholeCall s me (Post to head bytes) = IsWholeMessage s me to is_post_head head bytes
IsWholeCall s me (Bar comm) = is_present s comm ≡ true

-- a message with another rank of which the chunk in hand is not through: a head that messages have, whole
-- chunks, and bytes left for this one
pub record IsUnderWay (s : SetupView) (me other : ℕ) (message : Progress) : Type 0 where
  pub peers : are_peers s me other ≡ true
  pub head : is_head message.head ≡ true
  pub bytes : length message.bytes ≡ chunk_of s * message.chunks
  pub left : (message.chunks ≡ 0) ⊎ (chunk_of s * message.chunks < message.head.len)
  pub each : AreBytes message.bytes

-- a later chunk is drafted, or a whole one is raised
abbrev pub IsPart : ℕ → Part → Progress → Notes → Type 0
IsPart size Filling message chunk = 1 ≤ message.chunks
IsPart size Raised message chunk = is_whole size message chunk ≡ true
IsPart size Answered message chunk = is_whole size message chunk ≡ true

-- a root releases once it has seen all, and a member that is no root counts nobody
pub record IsBarrier (s : SetupView) (me comm seen released : ℕ) : Type 0 where
  pub present : is_present s comm ≡ true
  pub released_below : released < last_of s comm me
  pub seen_within : seen ≤ last_of s comm me
  pub all_seen : (released ≡ 0) ⊎ (seen ≡ last_of s comm me)
  pub of_root : (place_of s comm me ≡ 0) ⊎ (seen ≡ 0)

-- a stage that a rank of the run can be in
abbrev pub IsStage : SetupView → ℕ → Stage → Type 0
IsStage s me (Sending to part message chunk) = IsUnderWay s me to message × IsPart (chunk_of s) part message chunk
IsStage s me (Between from message) = IsUnderWay s me from message × (1 ≤ message.chunks)
IsStage s me (Taking from message chunk) = IsUnderWay s me from message
IsStage s me (Barrier comm seen released) = IsBarrier s me comm seen released
IsStage s me stage = Unit {0}

-- the sender side is free of any other message
abbrev pub is_free : Stage → Bool
is_free (Drafting header chunk) = false
is_free (Sending to part message chunk) = false
is_free stage = true

-- a posted message on its way is raised whole, and no other message is drafted or open beside it
pub record IsInFlight (s : SetupView) (me : ℕ) (stage : Stage) (post : InFlight) : Type 0 where
  pub peers : are_peers s me post.to ≡ true
  pub head : is_post_head post.head ≡ true
  pub whole : is_whole (chunk_of s) (fresh_message post.head) post.chunk ≡ true
  pub free : is_free stage ≡ true

-- a posted message, if there is one, can be on its way beside this stage
abbrev pub IsPosted : SetupView → ℕ → Stage → Option InFlight → Type 0
IsPosted s me stage None = Unit {0}
IsPosted s me stage (Some post) = IsInFlight s me stage post

-- how many barriers of a communicator are open at a stage: one, or none
abbrev pub open_barriers : ℕ → Stage → ℕ
open_barriers comm (Barrier c seen released) = if c == comm then 1 else 0
open_barriers comm stage = 0

-- what holds of the record of a rank of the run by itself, whatever the others are
pub record IsConsistent (s : SetupView) (me : ℕ) (rec : Record) : Type 0 where
  pub stage : IsStage s me rec.stage
  pub post : IsPosted s me rec.stage rec.post
  -- only other ranks of the run were seen
  pub notes : (j : ℕ) → are_peers s me j ≡ false → rec.notes j ≡ None
  -- each flip entered a barrier, which is finished or open
  pub flips : (comm : ℕ) → rec.flips comm ≡ barriers_of comm rec.calls + open_barriers comm rec.stage
  -- each finished call is one that this rank can make
  pub calls : All (IsWholeCall s me) rec.calls
