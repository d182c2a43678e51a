-- The messages from one rank to another, as the records of the two have them.
use Rattle.std.specs.Prelude.{◌≡◌, ℕ, ◌==◌, if◌then◌else◌, [], ◌∷◌, ◌++◌, Option, Some, None}
use Rattle.scc_base.specs.Calls.{Message}
use Rattle.scc_base.specs.Setups.{SetupView}
use Rattle.scc_proto.specs.Messages.{fresh_message, with_chunk, message_of, sent_messages, received_messages}
use Rattle.scc_proto.specs.Stages.{Stage, Sending, InFlight, Record}
use Rattle.scc_proto.specs.Records.{chunk_of}
use Rattle.scc_proto.specs.Passed.{in_hand}

-- the message that is open to a rank: the bytes are those of the chunks through, and of the raised one
abbrev pub open_message : ℕ → ℕ → Stage → Option Message
open_message size to (Sending j part message chunk) = if j == to then Some (message_of (in_hand size part message chunk)) else None
open_message size to stage = None

-- the message that was posted to a rank and is on its way
abbrev pub posted_message : ℕ → ℕ → Option InFlight → Option Message
posted_message size to None = None
posted_message size to (Some post) =
    if post.to == to then Some (message_of (with_chunk size (fresh_message post.head) post.chunk)) else None

-- what a rank has received of another one, against what that one has sent and posted to it: the same; or the open
-- message besides; or all but the last, which was posted and is on its way
pub data PairMessages (s : SetupView) (from to : ℕ) (records : ℕ → Record) : Type 0 where
  AllReceived : received_messages from (records to).calls ≡ sent_messages to (records from).calls → PairMessages s from to records
  OpenReceived : (message : Message) → open_message (chunk_of s) to (records from).stage ≡ Some message
      → received_messages from (records to).calls ≡ sent_messages to (records from).calls ++ message ∷ [] → PairMessages s from to records
  StillInFlight : (message : Message) → posted_message (chunk_of s) to (records from).post ≡ Some message
      → sent_messages to (records from).calls ≡ received_messages from (records to).calls ++ message ∷ [] → PairMessages s from to records
