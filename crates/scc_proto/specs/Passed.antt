-- The calls that a rank has passed: the finished ones, and the open one where its other side is through with
-- it (this project's profile).
use Rattle.std.specs.Prelude.{◌≡◌, ◌⊎◌, ℕ, suc, ◌-◌, Bool, false, ◌&&◌, ◌==◌, nat_lt, nat_le, if◌then◌else◌, List, [], ◌∷◌, ◌++◌, Option, Some, None, length}
use Rattle.scc_base.specs.Calls.{DataCall, Bar}
use Rattle.scc_base.specs.Setups.{SetupView, root_of}
use Rattle.scc_proto.specs.Messages.{Notes, Progress, fresh_message, with_chunk, message_of, send_to, recv_from, sent_messages, received_messages}
use Rattle.scc_proto.specs.Stages.{Part, Filling, Raised, Answered, Stage, Sending, Between, Taking, Barrier, InFlight, Record}
use Rattle.scc_proto.specs.Records.{chunk_of, last_of}
use Rattle.scc_proto.specs.Legality.{Outgoing}

-- a sent message with its bytes so far: those of the chunks through, and of the raised one
abbrev pub in_hand : ℕ → Part → Progress → Notes → Progress
in_hand size Filling message chunk = message
in_hand size Raised message chunk = with_chunk size message chunk
in_hand size Answered message chunk = with_chunk size message chunk

-- the call that a stage stands in, with its bytes so far: a draft that is not raised is none
abbrev pub call_in_stage : ℕ → Stage → Option DataCall
call_in_stage size (Sending to part message chunk) = Some (send_to to (message_of (in_hand size part message chunk)))
call_in_stage size (Between from message) = Some (recv_from from (message_of message))
call_in_stage size (Taking from message chunk) = Some (recv_from from (message_of message))
call_in_stage size (Barrier comm seen released) = Some (Bar comm)
call_in_stage size stage = None

-- the call that a rank is in, with its bytes so far: none where words are drafted and nothing of them is raised
abbrev pub open_call : SetupView → Record → Option DataCall
open_call s rec = call_in_stage (chunk_of s) rec.stage

-- the receiver has finished one more receive from s than s has finished sends and posts to it
abbrev pub is_received_ahead : ℕ → ℕ → (ℕ → Record) → Bool
is_received_ahead s r records = length (received_messages s (records r).calls) == suc (length (sent_messages r (records s).calls))

-- the root of a group waits for a member in the barrier that is open at it
abbrev pub is_gathering : ℕ → ℕ → Stage → Bool
is_gathering comm last (Barrier c seen released) = (c == comm) && nat_lt seen last
is_gathering comm last stage = false

-- the barriers of a communicator in which a root has seen every member
abbrev pub gathered_barriers : ℕ → ℕ → Record → ℕ
gathered_barriers comm last root = if is_gathering comm last root.stage then root.flips comm - 1 else root.flips comm

-- the root has seen every member in the own last barrier of the communicator
abbrev pub is_gathered : SetupView → ℕ → ℕ → (ℕ → Record) → Bool
is_gathered s comm me records = nat_le ((records me).flips comm) (gathered_barriers comm (last_of s comm me) (records (root_of s comm me)))

-- the open call, where it is passed
abbrev pub passed_open : SetupView → ℕ → Stage → (ℕ → Record) → List DataCall
passed_open s me (Sending to part message chunk) records =
    if is_received_ahead me to records then send_to to (message_of (in_hand (chunk_of s) part message chunk)) ∷ [] else []
passed_open s me (Barrier comm seen released) records = if is_gathered s comm me records then Bar comm ∷ [] else []
passed_open s me stage records = []

-- the calls of a rank that have come to pass: the finished ones, and the open one where its partners have done their
-- part
abbrev pub passed_calls : SetupView → (ℕ → Record) → ℕ → List DataCall
passed_calls s records me = (records me).calls ++ passed_open s me (records me).stage records

-- the calls that have come to pass are the finished ones, or the finished ones and the open one
abbrev pub IsPassed : List DataCall → Option DataCall → List DataCall → Type 0
IsPassed finished current passed = (passed ≡ finished) ⊎ ((call : DataCall) × (current ≡ Some call) × (passed ≡ finished ++ call ∷ []))

-- the message in a rank's slot, by its post on its way: none once the receiver has received as many messages as it was sent
abbrev pub slot_by : ℕ → ℕ → Option InFlight → (ℕ → Record) → Option Outgoing
slot_by size me None records = None
slot_by size me (Some post) records =
    if length (received_messages me (records post.to).calls) == length (sent_messages post.to (records me).calls)
    then None
    else Some (record { to = post.to; head = post.head; bytes = (with_chunk size (fresh_message post.head) post.chunk).bytes })

-- the message that a rank has posted and that is not received
abbrev pub slot_of : SetupView → (ℕ → Record) → ℕ → Option Outgoing
slot_of s records me = slot_by (chunk_of s) me (records me).post records
