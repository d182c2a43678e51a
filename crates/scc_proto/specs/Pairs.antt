-- The phases of the messages from one rank to another: how their flags, the sender's buffer and the two
-- records fit together (this project's profile of RCCE's handshake).
use Rattle.std.specs.Prelude.{◌≡◌, ℕ, ◌<◌, Bool, true, false, ◌==◌, if◌then◌else◌, List, [], ◌∷◌, ◌++◌, Option, Some, None}
use Rattle.scc_base.specs.Calls.{Message}
use Rattle.scc_base.specs.declared.signals.Signal.TheVariants.{Sent, Ready}
use Rattle.scc_base.specs.Heads.{MessageHead}
use Rattle.scc_proto.specs.Messages.{Notes, StandsIn, header_word, Progress, fresh_message, is_last, with_chunk, message_of, sent_messages, received_messages}
use Rattle.scc_proto.specs.Stages.{Part, Filling, Raised, Answered, Stage, Drafting, Sending, Between, Taking, InFlight, Record}
use Rattle.scc_proto.specs.Views.{View}

-- the sender's side of a pair: no chunk is raised to the receiver, or one is, whether its `ready` was seen
-- and whether it is a posted message's
pub data SendingSide : Type 0 where
  Resting : (through : Option Progress) → SendingSide
  Offering : (is_answered is_post : Bool) → Progress → (chunk : Notes) → SendingSide

-- the receiver's side: no chunk of the sender is being taken, or one is
pub data TakingSide : Type 0 where
  Awaiting : (through : Option Progress) → TakingSide
  Receiving : Progress → (chunk : Notes) → TakingSide

-- the sender's side of a pair, by how far its chunk in hand is
abbrev pub side_of_part : Part → Progress → Notes → SendingSide
side_of_part Filling message chunk = Resting (Some message)
side_of_part Raised message chunk = Offering false false message chunk
side_of_part Answered message chunk = Offering true false message chunk

-- the sender's side of a pair, by the message that it posted
abbrev pub side_of_post : ℕ → Option InFlight → SendingSide
side_of_post r None = Resting None
side_of_post r (Some post) = if post.to == r then Offering post.is_answered true (fresh_message post.head) post.chunk else Resting None

-- a rank's side toward a receiver
abbrev pub sending_side : ℕ → Stage → Option InFlight → SendingSide
sending_side r (Sending to part message chunk) post = if to == r then side_of_part part message chunk else Resting None
sending_side r stage post = side_of_post r post

-- a rank's side toward a sender
abbrev pub taking_side : ℕ → Stage → TakingSide
taking_side s (Between from message) = Awaiting (if from == s then Some message else None)
taking_side s (Taking from message chunk) = if from == s then Receiving message chunk else Awaiting None
taking_side s stage = Awaiting None

-- what flags, buffer and records show of the messages from one rank to another
pub record Pair : Type 0 where
  pub sent_flag : ℕ
  pub ready_flag : ℕ
  pub sending : SendingSide
  pub taking : TakingSide
  -- the header words that the receiver has loaded since it saw `sent`
  pub notes : Option Notes
  -- the sender's header line and chunk buffer
  pub header : ℕ → ℕ
  pub chunk : ℕ → ℕ
  pub sent : List Message
  pub received : List Message

-- what view and records show of the messages from rank s to rank r
abbrev pub pair_of : ℕ → ℕ → View → Record → Record → Pair
pair_of s r view sender receiver = record {
  sent_flag = view.signal Sent s r;
  ready_flag = view.signal Ready r s;
  sending = sending_side r sender.stage sender.post;
  taking = taking_side s receiver.stage;
  notes = receiver.notes s;
  header = view.header s;
  chunk = view.chunk s;
  sent = sent_messages r sender.calls;
  received = received_messages s receiver.calls;
}

-- the message as it goes on, with nothing or something through
abbrev pub message_so_far : Option Progress → MessageHead → Progress
message_so_far None head = fresh_message head
message_so_far (Some message) head = message

-- a posted message counts as sent from its raise on
abbrev pub pending : ℕ → Bool → Progress → Notes → List Message
pending size is_post message chunk = if is_post then message_of (with_chunk size message chunk) ∷ [] else []

-- a message that is not posted counts as sent once its last `ready` is lowered
abbrev pub settling : ℕ → Bool → Progress → Notes → List Message
settling size is_post message chunk = if is_post then [] else message_of (with_chunk size message chunk) ∷ []

-- the words that were noted, if any were, stand in the header line
abbrev pub NotesStand : Option Notes → (ℕ → ℕ) → Type 0
NotesStand None header = Unit {0}
NotesStand (Some notes) header = StandsIn notes header

-- nothing is raised, and the receiver has what was sent
pub record AtRest (x : Pair) (through : Option Progress) : Type 0 where
  pub sent_flag : x.sent_flag ≡ 0
  pub ready_flag : x.ready_flag ≡ 0
  pub sending : x.sending ≡ Resting through
  pub taking : x.taking ≡ Awaiting through
  pub notes : x.notes ≡ None
  pub level : x.received ≡ x.sent

-- `sent` is raised, and the receiver has not lowered it
pub record IsRaised (size : ℕ) (x : Pair) (through : Option Progress) (head : MessageHead) (is_post : Bool) (chunk : Notes) : Type 0 where
  pub sent_flag : x.sent_flag ≡ 1
  pub ready_flag : x.ready_flag ≡ 0
  pub sending : x.sending ≡ Offering false is_post (message_so_far through head) chunk
  pub taking : x.taking ≡ Awaiting through
  pub notes : NotesStand x.notes x.header
  pub level : x.sent ≡ x.received ++ pending size is_post (message_so_far through head) chunk

-- the receiver has lowered `sent` and loads the chunk
pub record IsTaken (size : ℕ) (x : Pair) (message : Progress) (is_post : Bool) (chunk words : Notes) : Type 0 where
  pub sent_flag : x.sent_flag ≡ 0
  pub ready_flag : x.ready_flag ≡ 0
  pub sending : x.sending ≡ Offering false is_post message chunk
  pub taking : x.taking ≡ Receiving message words
  pub notes : x.notes ≡ None
  pub loaded : StandsIn words x.chunk
  pub level : x.sent ≡ x.received ++ pending size is_post message chunk

-- what the receiver has once it took the chunk: the whole message, or its chunks up to this one. Eight parameters: the chunk
-- (whether it is the last, the largest size, whether it is of a post, the message so far, its words), and what the receiver
-- has: how far it is in a message, and the messages of the pair that were sent and received.
abbrev pub HasArrived : Bool → ℕ → Bool → Progress → Notes → Option Progress → List Message → List Message → Type 0
HasArrived true size is_post message chunk through sent received =
    (through ≡ None) × (received ≡ sent ++ settling size is_post message chunk)
HasArrived false size is_post message chunk through sent received = (through ≡ Some (with_chunk size message chunk)) × (received ≡ sent)

-- `ready` is raised, and the sender has not lowered it. Seven parameters: the largest chunk, the pair, and what its two
-- records must agree on: how far the receiver is, whether the sender saw `ready`, whether it is a post, the message so far
-- and the chunk's words.
pub record IsReady (size : ℕ) (x : Pair) (through : Option Progress) (is_answered is_post : Bool) (message : Progress)
    (chunk : Notes) : Type 0 where
  pub sent_flag : x.sent_flag ≡ 0
  pub ready_flag : x.ready_flag ≡ 1
  pub sending : x.sending ≡ Offering is_answered is_post message chunk
  pub taking : x.taking ≡ Awaiting through
  pub notes : x.notes ≡ None
  pub arrived : HasArrived (is_last size message) size is_post message chunk through x.sent x.received

-- each pair is in one of four phases
pub data Phase (size : ℕ) (x : Pair) : Type 0 where
  InRest : (through : Option Progress) → AtRest x through → Phase size x
  InRaised : (through : Option Progress) → (head : MessageHead) → (is_post : Bool) → (chunk : Notes)
      → IsRaised size x through head is_post chunk → Phase size x
  InTaken : (message : Progress) → (is_post : Bool) → (chunk words : Notes) → IsTaken size x message is_post chunk words → Phase size x
  InReady : (through : Option Progress) → (is_answered is_post : Bool) → (message : Progress) → (chunk : Notes)
      → IsReady size x through is_answered is_post message chunk → Phase size x

-- a header line holds a head
abbrev pub HeaderStands : MessageHead → Bool → (ℕ → ℕ) → Type 0
HeaderStands head is_post header = (k : ℕ) → k < 4 → header k ≡ header_word head is_post k

-- what a rank has drafted or raised stands in its buffer: the header of its open or posted message from its
-- first raise on, and the words that it has noted
abbrev pub DraftStands : Stage → (ℕ → ℕ) → (ℕ → ℕ) → Type 0
DraftStands (Drafting noted_header noted_chunk) header chunk = StandsIn noted_header header × StandsIn noted_chunk chunk
DraftStands (Sending to part message noted_chunk) header chunk = HeaderStands message.head false header × StandsIn noted_chunk chunk
DraftStands stage header chunk = Unit {0}

-- the header of a posted message on its way and its chunk stand in the sender's buffer
abbrev pub PostStands : Option InFlight → (ℕ → ℕ) → (ℕ → ℕ) → Type 0
PostStands None header chunk = Unit {0}
PostStands (Some post) header chunk = HeaderStands post.head true header × StandsIn post.chunk chunk

-- a sender's buffer holds what the rank has drafted or raised, and its posted message
pub record BufferStands (rec : Record) (header chunk : ℕ → ℕ) : Type 0 where
  pub draft : DraftStands rec.stage header chunk
  pub post : PostStands rec.post header chunk
