-- The messages of a pair of ranks, by what each has done.
use Rattle.std.specs.Prelude.{◌≡◌, ℕ, ◌==◌, Bool, ◌&&◌, if◌then◌else◌, List, [], ◌∷◌, ◌++◌, Option, Some, None, slice_get}
use Rattle.std.specs.List.{filter, flat_map}
use Rattle.scc_base.specs.Calls.{DataCall, Message}
use Rattle.scc_base.specs.Calls.DataCall.{Send, Recv, Post, Bar}
use Rattle.script_machine.specs.declared.posts.Posted.{Posted}
use Rattle.plain_meaning.specs.Meaning.{State}
use Rattle.plain_meaning.specs.Step.{Configuration, slot_at}

-- the message that a call sends to a rank, a post among them: one, or none
abbrev pub sent_by : ℕ → DataCall → List Message
sent_by rank (Send to head bytes) = if to == rank then record { head = head; bytes = bytes } ∷ [] else []
sent_by rank (Recv from head bytes) = []
sent_by rank (Post to head bytes) = if to == rank then record { head = head; bytes = bytes } ∷ [] else []
sent_by rank (Bar comm) = []

-- the message that a call receives from a rank: one, or none
abbrev pub received_by : ℕ → DataCall → List Message
received_by rank (Send to head bytes) = []
received_by rank (Recv from head bytes) = if from == rank then record { head = head; bytes = bytes } ∷ [] else []
received_by rank (Post to head bytes) = []
received_by rank (Bar comm) = []

-- the messages that calls sent to a rank, posts among them, in order
abbrev pub sent_to : ℕ → List DataCall → List Message
sent_to rank calls = flat_map (sent_by rank) calls

-- the messages that calls received from a rank, in order
abbrev pub received_from : ℕ → List DataCall → List Message
received_from rank calls = flat_map (received_by rank) calls

-- the message for a rank that is in a slot, if there is one
abbrev pub waiting_for : ℕ → Option Posted → List Message
waiting_for rank None = []
waiting_for rank (Some message) = if message.to == rank then record { head = message.head; bytes = message.bytes } ∷ [] else []

-- what a rank has sent to another is what the other has received from it, followed by what is in its slot
abbrev pub AreDelivered : Configuration State → Type 0
AreDelivered c =
    (i j : ℕ) (u v : State) → slice_get c.cells i ≡ Some u → slice_get c.cells j ≡ Some v
    → sent_to j u.matched ≡ received_from i v.matched ++ waiting_for j (slot_at c i)

-- a message of a kind in a communicator
abbrev pub is_of : ℕ → ℕ → Message → Bool
is_of kind comm message = (message.head.kind == kind) && (message.head.comm == comm)

-- the n-th message of a kind in a communicator from one rank to another is received as it was sent
abbrev pub AreReceivedAsSent : Configuration State → Type 0
AreReceivedAsSent c =
    (kind comm n i j : ℕ) (u v : State) (message : Message) → slice_get c.cells i ≡ Some u → slice_get c.cells j ≡ Some v
    → slice_get (filter (is_of kind comm) (received_from i v.matched)) n ≡ Some message
    → slice_get (filter (is_of kind comm) (sent_to j u.matched)) n ≡ Some message
