-- Which calls ranks can have made together: lists of calls, one a rank, that the steps of posts, takes, pairs and
-- barriers use up (RCCE specification 2.0: send and receive are synchronous and a barrier lets nobody through before
-- all have come; posts and groups by keys are this project's profile).
use Rattle.std.specs.Prelude.{◌≡◌, ◌≢◌, ℕ, ◌<◌, Bool, true, false, ◌&&◌, ◌==◌, nat_lt, if◌then◌else◌, List, [], ◌∷◌, ◌++◌, Option, Some, None}
use Rattle.scc_base.specs.Heads.{MessageHead}
use Rattle.scc_base.specs.Calls.{DataCall, Send, Recv, Post, Bar, Message}
use Rattle.scc_base.specs.Changes.{Change, only, both}
use Rattle.scc_base.specs.Groups.{is_with, place_in}
use Rattle.scc_base.specs.Runs.{Runs, RunsLowest}

-- a message with the rank that it is for
pub record Outgoing : Type 0 where
  pub to : ℕ
  pub head : MessageHead
  pub bytes : List ℕ

-- the calls that are left, first call first, and the posted message in each rank's slot
pub record Standing : Type 0 where
  pub calls : ℕ → List DataCall
  pub slots : ℕ → Option Outgoing

-- a step: what calls go together
pub data CallStep : Type 0 where
  -- a rank puts a message into its slot
  Posting : (from : ℕ) → (message : Outgoing) → CallStep
  -- a message is taken out of a rank's slot by a receive
  Taking : (from : ℕ) → (message : Outgoing) → CallStep
  -- a send and a receive meet
  Pairing : (from : ℕ) → (message : Outgoing) → CallStep
  -- all members of a group meet at its barrier
  Meeting : (comm : ℕ) → (root : ℕ) → CallStep

-- the rank to which a step belongs
abbrev pub owner_of : CallStep → ℕ
owner_of (Posting from message) = from
owner_of (Taking from message) = message.to
owner_of (Pairing from message) = from
owner_of (Meeting comm root) = root

-- whether a rank is a member of the group of a communicator that rank r is in
abbrev pub in_group : ℕ → (ℕ → ℕ → ℕ) → ℕ → ℕ → ℕ → Bool
in_group nue keys comm r k = nat_lt k nue && is_with (keys comm) r k

-- a rank is member 0 of its group
pub record IsFirst (nue : ℕ) (keys : ℕ → ℕ → ℕ) (comm r : ℕ) : Type 0 where
  pub below : r < nue
  pub zeroth : place_in (keys comm) r ≡ 0

-- a rank sends to another one, and a barrier belongs to member 0
abbrev pub IsProper : ℕ → (ℕ → ℕ → ℕ) → CallStep → Type 0
IsProper nue keys (Posting from message) = Unit {0}
IsProper nue keys (Taking from message) = Unit {0}
IsProper nue keys (Pairing from message) = from ≢ message.to
IsProper nue keys (Meeting comm root) = IsFirst nue keys comm root

-- the ranks whose first calls a step uses up
abbrev pub callers : ℕ → (ℕ → ℕ → ℕ) → CallStep → ℕ → Bool
callers nue keys (Posting from message) = only from
callers nue keys (Taking from message) = only message.to
callers nue keys (Pairing from message) = both from message.to
callers nue keys (Meeting comm root) = in_group nue keys comm root

-- the call of a rank that is one of a step's callers
abbrev pub call_at : CallStep → ℕ → DataCall
call_at (Posting from message) k = Post message.to message.head message.bytes
call_at (Taking from message) k = Recv from message.head message.bytes
call_at (Pairing from message) k = if k == from then Send message.to message.head message.bytes else Recv from message.head message.bytes
call_at (Meeting comm root) k = Bar comm

-- the rank on whose slot a step looks: none for a barrier
abbrev pub looks_at_slot : CallStep → ℕ → Bool
looks_at_slot (Posting from message) = only from
looks_at_slot (Taking from message) = only from
looks_at_slot (Pairing from message) = only from
looks_at_slot (Meeting comm root) = λ k. false

-- what stands in a step's slot before it: a post and a send wait for an empty slot
abbrev pub slot_before : CallStep → Option Outgoing
slot_before (Posting from message) = None
slot_before (Taking from message) = Some message
slot_before (Pairing from message) = None
slot_before (Meeting comm root) = None

-- what stands in a step's slot after it
abbrev pub slot_after : CallStep → Option Outgoing
slot_after (Posting from message) = Some message
slot_after (Taking from message) = None
slot_after (Pairing from message) = None
slot_after (Meeting comm root) = None

-- a step leads from one standing to another: its callers' first calls are used up, and its slot has changed
pub record Makes (nue : ℕ) (keys : ℕ → ℕ → ℕ) (step : CallStep) (old new : Standing) : Type 0 where
  pub proper : IsProper nue keys step
  pub calls : Change (callers nue keys step) (λ k before after. before ≡ call_at step k ∷ after) old.calls new.calls
  pub slots : Change (looks_at_slot step) (λ k before after. (before ≡ slot_before step) × (after ≡ slot_after step)) old.slots new.slots

-- a step of this owner leads from one standing to another
abbrev pub OwnStep : ℕ → (ℕ → ℕ → ℕ) → ℕ → Standing → Standing → Type 0
OwnStep nue keys owner old new = (step : CallStep) × (owner_of step ≡ owner) × Makes nue keys step old new

-- no call is left, and the slots are these
pub record IsUsedUp (left : ℕ → Option Outgoing) (s : Standing) : Type 0 where
  pub calls : (k : ℕ) → s.calls k ≡ []
  pub slots : (k : ℕ) → s.slots k ≡ left k

-- no slot is full
abbrev pub no_slots : ℕ → Option Outgoing
no_slots k = None

-- the lists of calls are legal, and leave these slots: from empty slots the steps, lowest owner first, use the lists
-- up wholly. It is for lists whose ranks and peers are below nue, and whose barriers are of communicators that have a rule:
-- the records of a run, and logs that were read, give no others
abbrev pub IsLegal : ℕ → (ℕ → ℕ → ℕ) → (ℕ → List DataCall) → (ℕ → Option Outgoing) → Type 0
IsLegal nue keys calls slots = (n : ℕ) × RunsLowest (OwnStep nue keys) (IsUsedUp slots) n (record { calls = calls; slots = no_slots })

-- the steps in some order use up the lists from these slots to those
abbrev pub UsesUp : ℕ → (ℕ → ℕ → ℕ) → (ℕ → Option Outgoing) → (ℕ → List DataCall) → (ℕ → Option Outgoing) → Type 0
UsesUp nue keys old calls new = (n : ℕ) × Runs (OwnStep nue keys) (IsUsedUp new) n (record { calls = calls; slots = old })

-- the calls of a step, as lists: one call of each of its callers
abbrev pub calls_of_step : ℕ → (ℕ → ℕ → ℕ) → CallStep → ℕ → List DataCall
calls_of_step nue keys step k = if callers nue keys step k then call_at step k ∷ [] else []

-- the slots after a step
abbrev pub slots_after : CallStep → (ℕ → Option Outgoing) → ℕ → Option Outgoing
slots_after step slots k = if looks_at_slot step k then slot_after step else slots k

-- a step can be made with these slots
pub record CanFollow (nue : ℕ) (keys : ℕ → ℕ → ℕ) (step : CallStep) (slots : ℕ → Option Outgoing) : Type 0 where
  pub proper : IsProper nue keys step
  pub slot : (k : ℕ) → looks_at_slot step k ≡ true → slots k ≡ slot_before step

-- each rank has made the calls of a step at the end of its list
abbrev pub HaveMade : ℕ → (ℕ → ℕ → ℕ) → CallStep → (ℕ → List DataCall) → (ℕ → List DataCall) → Type 0
HaveMade nue keys step old new = (k : ℕ) → new k ≡ old k ++ calls_of_step nue keys step k

-- the slots are those after a step
abbrev pub HaveMoved : CallStep → (ℕ → Option Outgoing) → (ℕ → Option Outgoing) → Type 0
HaveMoved step old new = (k : ℕ) → new k ≡ slots_after step old k

-- lists of calls have grown by nothing, or by the calls of one step at their ends
pub data Grows (nue : ℕ) (keys : ℕ → ℕ → ℕ) (old : ℕ → List DataCall) (old_slots : ℕ → Option Outgoing) (new : ℕ → List DataCall)
    (new_slots : ℕ → Option Outgoing) : Type 0 where
  ByNothing : ((k : ℕ) → new k ≡ old k) → ((k : ℕ) → new_slots k ≡ old_slots k) → Grows nue keys old old_slots new new_slots
  ByStep : (step : CallStep) → CanFollow nue keys step old_slots → HaveMade nue keys step old new → HaveMoved step old_slots new_slots
      → Grows nue keys old old_slots new new_slots

-- the message in a slot, where it is for rank r
abbrev pub slot_message : ℕ → Option Outgoing → List Message
slot_message r None = []
slot_message r (Some message) = if message.to == r then record { head = message.head; bytes = message.bytes } ∷ [] else []
