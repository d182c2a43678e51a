-- The next action of a rank, which is all that a step of a run must know. `U` is the type of a rank's state.
use Rattle.std.specs.Prelude.{ℕ, ◌==◌, Bool, true, false, List, Option, Some, None}
use Rattle.scc_base.specs.Heads.{MessageHead}
use Rattle.scc_base.specs.declared.calls.Call.{Call}
use Rattle.scc_base.specs.declared.calls.Call.TheVariants as call
use Rattle.script_machine.specs.declared.facing.Facing.{Facing}
use Rattle.script_machine.specs.declared.facing.Facing.TheVariants as facing
use Rattle.script_machine.specs.declared.posts.Posted.{Posted}

-- the next action of a rank, which is all that a step of a run must know; `U` is the type of a rank's state
pub data Next (U : Type 0) : Type 0 where
  -- none: the rank's program has ended, or the rank was stopped
  Ends : Next U
  -- a local statement, and the state after it
  Goes : (after : U) → Next U
  -- a post: the message that it puts into its slot, and the state after it
  Posts : (message : Posted) → (after : U) → Next U
  -- a send, and the state after it
  Sends : (to : ℕ) → (head : MessageHead) → (bytes : List ℕ) → (after : U) → Next U
  -- a receive: the state after taking bytes, and the state after refusing a message with another head
  Recvs : (from : ℕ) → (head : MessageHead) → (take : List ℕ → U) → (refuse : MessageHead → U) → Next U
  -- a barrier of a communicator, and the state after it
  Bars : (comm : ℕ) → (after : U) → Next U

-- the call that a rank makes next, if it makes one
abbrev pub call_next : {U : Type 0} → Next U → Option Call
call_next Ends = None
call_next (Goes after) = None
call_next (Posts message after) = Some (call.Post message.to message.head)
call_next (Sends to head bytes after) = Some (call.Send to head)
call_next (Recvs from head take refuse) = Some (call.Recv from head)
call_next (Bars comm after) = Some (call.Bar comm)

-- the next action is a local statement
abbrev pub is_going : {U : Type 0} → Next U → Bool
is_going Ends = false
is_going (Goes after) = true
is_going (Posts message after) = false
is_going (Sends to head bytes after) = false
is_going (Recvs from head take refuse) = false
is_going (Bars comm after) = false

-- the next action is a barrier of this communicator
abbrev pub is_at_barrier : {U : Type 0} → ℕ → Next U → Bool
is_at_barrier comm Ends = false
is_at_barrier comm (Goes after) = false
is_at_barrier comm (Posts message after) = false
is_at_barrier comm (Sends to head bytes after) = false
is_at_barrier comm (Recvs from head take refuse) = false
is_at_barrier comm (Bars asked after) = asked == comm

-- the rank at the other end of a message, or the group of a barrier
abbrev pub facing_of : {U : Type 0} → Next U → Facing
facing_of Ends = facing.Nobody
facing_of (Goes after) = facing.Nobody
facing_of (Posts message after) = facing.Nobody
facing_of (Sends to head bytes after) = facing.One to
facing_of (Recvs from head take refuse) = facing.One from
facing_of (Bars comm after) = facing.Group

-- the state after a barrier
abbrev pub past_barrier : {U : Type 0} → Next U → U → U
past_barrier Ends u = u
past_barrier (Goes after) u = u
past_barrier (Posts message after) u = u
past_barrier (Sends to head bytes after) u = u
past_barrier (Recvs from head take refuse) u = u
past_barrier (Bars comm after) u = after
