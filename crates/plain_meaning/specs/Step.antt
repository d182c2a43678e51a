-- The plain step: what ranks do in one step of a run, over the list of their states and the messages that they posted
-- (this project's profile; a send and a receive are those of RCCE specification 2.0, which meet, and so do the barriers
-- of a group). Each step has one owner.
use Rattle.std.specs.Prelude.{◌≡◌, ℕ, zero, suc, ◌+◌, ◌==◌, Bool, true, ◌&&◌, not, if◌then◌else◌, List, [], ◌∷◌, length, Option, Some, None, slice_get, slice_index_or, slice_set}
use Rattle.std.specs.Option.{option_map_or, option_or}
use Rattle.scc_base.specs.Groups.{is_with, root_in}
use Rattle.scc_base.specs.Heads.{MessageHead}
use Rattle.script_machine.specs.declared.posts.Posted.{Posted}
use Rattle.script_machine.specs.Next.{Next, is_at_barrier, past_barrier}
use Rattle.script_machine.specs.Next.Next.{Ends, Goes, Posts, Sends, Recvs, Bars}

-- a configuration: the state of each rank, and each rank's slot: the message that it posted and nobody took yet
pub record Configuration (U : Type 0) : Type 0 where
  pub cells : List U
  pub slots : List (Option Posted)

-- the next action of rank i, or none if there is no such rank
abbrev pub next_at : {U : Type 0} → (U → Next U) → Configuration U → ℕ → Next U
next_at next c i = option_map_or next (slice_get c.cells i) Ends

-- the message in the slot of rank i, if there is one
abbrev pub slot_at : {U : Type 0} → Configuration U → ℕ → Option Posted
slot_at c i = slice_index_or c.slots i None

-- rank i goes on
abbrev pub with_cell : {U : Type 0} → Configuration U → ℕ → U → Configuration U
with_cell c i after = record c { cells = slice_set c.cells i after }

-- the slot of rank i holds this message, or none
abbrev pub configuration_with_slot : {U : Type 0} → Configuration U → ℕ → Option Posted → Configuration U
configuration_with_slot c i message = record c { slots = slice_set c.slots i message }

-- two messages have the same kind, communicator and length
abbrev pub same_head : MessageHead → MessageHead → Bool
same_head sent asked = (sent.kind == asked.kind) && (sent.comm == asked.comm) && (sent.len == asked.len)

-- a post: rank i's next action is one, and its slot is empty. The slot then holds the message, and i goes on.
abbrev pub post_step : {U : Type 0} → Configuration U → ℕ → Posted → U → Option Posted → Option (Configuration U)
post_step c i message after None = Some (configuration_with_slot (with_cell c i after) i (Some message))
post_step c i message after (Some earlier) = None

-- a match: rank i's next action is a send to j, its slot is empty, and j's is a receive from i that asks for the same head. j
-- takes the bytes, and both go on. Its owner is the sender. Eight parameters, since both ends are looked at: the
-- configuration, the two ranks, what i sends (the head, the bytes, its state after), i's slot, and what is next at j.
abbrev pub match_step : {U : Type 0} → Configuration U → ℕ → ℕ → MessageHead → List ℕ → U → Option Posted → Next U
    → Option (Configuration U)
match_step c i j head bytes after None (Recvs from asked take refuse) =
    if (from == i) && same_head head asked then Some (with_cell (with_cell c i after) j (take bytes)) else None
match_step c i j head bytes after None Ends = None
match_step c i j head bytes after None (Goes other) = None
match_step c i j head bytes after None (Posts message other) = None
match_step c i j head bytes after None (Sends to sent out other) = None
match_step c i j head bytes after None (Bars comm other) = None
match_step c i j head bytes after (Some earlier) next = None

-- a take: rank j's next action is a receive from i, and the slot of i holds a message to j with the head that j asks for. j
-- takes the bytes and goes on, and the slot is empty. A mismatch: the message in the slot of i, or the one that i sends next
-- while its slot is empty, has another head. j refuses it and is stopped, and i and its slot stay. Eight parameters, since
-- both ends are looked at: the configuration, the two ranks, what j asks for and its states after a take and after a refusal,
-- i's slot, and what is next at i.
abbrev pub receive_step : {U : Type 0} → Configuration U → ℕ → ℕ → MessageHead → (List ℕ → U) → (MessageHead → U) → Option Posted
    → Next U → Option (Configuration U)
receive_step c j i asked take refuse (Some message) next =
    if message.to == j
    then (if same_head message.head asked
    then Some (configuration_with_slot (with_cell c j (take message.bytes)) i None)
    else Some (with_cell c j (refuse message.head)))
    else None
receive_step c j i asked take refuse None (Sends to sent bytes after) =
    if (to == j) && not (same_head sent asked) then Some (with_cell c j (refuse sent)) else None
receive_step c j i asked take refuse None Ends = None
receive_step c j i asked take refuse None (Goes after) = None
receive_step c j i asked take refuse None (Posts message after) = None
receive_step c j i asked take refuse None (Recvs from head more again) = None
receive_step c j i asked take refuse None (Bars comm after) = None

-- each rank's state changed by the rank's number
abbrev pub by_rank : {U : Type 0} → (ℕ → U → U) → List U → List U
by_rank change [] = []
by_rank change (u ∷ us) = change 0 u ∷ by_rank (λ rank. change (suc rank)) us

-- each rank whose number passes the test waits at a barrier of this communicator
abbrev pub all_at_barrier : {U : Type 0} → (U → Next U) → ℕ → (ℕ → Bool) → List U → Bool
all_at_barrier next comm test [] = true
all_at_barrier next comm test (u ∷ us) =
    (if test 0 then is_at_barrier comm (next u) else true) && all_at_barrier next comm (λ rank. test (suc rank)) us

-- a state after its barrier if the test passes, otherwise unchanged
abbrev pub past_if : {U : Type 0} → (U → Next U) → Bool → U → U
past_if next member u = if member then past_barrier (next u) u else u

-- a barrier: all members of the group of rank i are at one of their communicator. All go on. Its owner is member 0. The
-- members are the ranks with the key of i in the communicator.
abbrev pub barrier_step : {U : Type 0} → (ℕ → ℕ → ℕ) → (U → Next U) → Configuration U → ℕ → ℕ → Option (Configuration U)
barrier_step keys next c i comm =
    if (root_in (keys comm) i == i) && all_at_barrier next comm (is_with (keys comm) i) c.cells
    then Some (record c { cells = by_rank (λ rank. past_if next (is_with (keys comm) i rank)) c.cells })
    else None

-- the step that rank i owns, by its next action. A local step is a statement of this rank alone.
abbrev pub step_by : {U : Type 0} → (ℕ → ℕ → ℕ) → (U → Next U) → Configuration U → ℕ → Next U → Option (Configuration U)
step_by keys next c i Ends = None
step_by keys next c i (Goes after) = Some (with_cell c i after)
step_by keys next c i (Posts message after) = post_step c i message after (slot_at c i)
step_by keys next c i (Sends to head bytes after) = match_step c i to head bytes after (slot_at c i) (next_at next c to)
step_by keys next c i (Recvs from head take refuse) = receive_step c i from head take refuse (slot_at c from) (next_at next c from)
step_by keys next c i (Bars comm after) = barrier_step keys next c i comm

-- the step that rank i owns, if it has one
abbrev pub step_of : {U : Type 0} → (ℕ → ℕ → ℕ) → (U → Next U) → Configuration U → ℕ → Option (Configuration U)
step_of keys next c i = step_by keys next c i (next_at next c i)

-- a step whose owner is this rank
abbrev pub IsStepOf : {U : Type 0} → (ℕ → ℕ → ℕ) → (U → Next U) → ℕ → Configuration U → Configuration U → Type 0
IsStepOf keys next owner c d = step_of keys next c owner ≡ Some d

-- the enabled step with the lowest owner among n ranks from i on
abbrev pub lowest : {U : Type 0} → (ℕ → ℕ → ℕ) → (U → Next U) → Configuration U → ℕ → ℕ → Option (Configuration U)
lowest keys next c zero i = None
lowest keys next c (suc n) i = option_or (step_of keys next c i) (lowest keys next c n (i + 1))

-- the enabled step with the lowest owner
abbrev pub lowest_step : {U : Type 0} → (ℕ → ℕ → ℕ) → (U → Next U) → Configuration U → Option (Configuration U)
lowest_step keys next c = lowest keys next c (length c.cells) 0

-- the configuration after the enabled step with the lowest owner is taken until none is enabled, at most n times
abbrev pub run_on : {U : Type 0} → (ℕ → ℕ → ℕ) → (U → Next U) → ℕ → Configuration U → Configuration U
run_on keys next zero c = c
run_on keys next (suc n) c = option_map_or (run_on keys next n) (lowest_step keys next c) c
