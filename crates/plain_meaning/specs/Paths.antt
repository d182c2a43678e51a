-- What a rank has done by itself: a path of its program, from a state to a state, with the calls on it and their bytes,
-- and the message that it posted last before each end of the path.
use Rattle.std.specs.Prelude.{◌≡◌, ℕ, List, [], ◌∷◌, length, Option, Some, None}
use Rattle.scc_base.specs.Calls.{DataCall}
use Rattle.scc_base.specs.Calls.DataCall.{Send, Recv, Post, Bar}
use Rattle.scc_base.specs.Heads.{MessageHead}
use Rattle.script_machine.specs.Next.{Next}
use Rattle.script_machine.specs.Next.Next.{Goes, Posts, Sends, Recvs, Bars}
use Rattle.script_machine.specs.declared.posts.Posted.{Posted}

-- from a state, before which `last` was posted last, a rank comes with these calls to `v`, before which `end` was posted
-- last
pub data DidCalls {U : Type 0} (next : U → Next U) (v : U) (end : Option Posted) : U → Option Posted → List DataCall → Type 0 where
  Here : DidCalls next v end v end []
  Own : (u w : U) → (last : Option Posted) → (calls : List DataCall) → next u ≡ Goes w → DidCalls next v end w last calls
      → DidCalls next v end u last calls
  Left : (u w : U) → (last : Option Posted) → (message : Posted) → (calls : List DataCall) → next u ≡ Posts message w
      → DidCalls next v end w (Some message) calls → DidCalls next v end u last (Post message.to message.head message.bytes ∷ calls)
  Sent : (u w : U) → (last : Option Posted) → (to : ℕ) → (head : MessageHead) → (bytes : List ℕ) → (calls : List DataCall)
      → next u ≡ Sends to head bytes w → DidCalls next v end w last calls → DidCalls next v end u last (Send to head bytes ∷ calls)
  Got : (u : U) → (last : Option Posted) → (from : ℕ) → (head : MessageHead) → (bytes : List ℕ) → (take : List ℕ → U)
      → (refuse : MessageHead → U)
      → (calls : List DataCall) → length bytes ≡ head.len → next u ≡ Recvs from head take refuse
      → DidCalls next v end (take bytes) last calls → DidCalls next v end u last (Recv from head bytes ∷ calls)
  Met : (u w : U) → (last : Option Posted) → (comm : ℕ) → (calls : List DataCall) → next u ≡ Bars comm w
      → DidCalls next v end w last calls → DidCalls next v end u last (Bar comm ∷ calls)

-- the path of a rank from `start`, where it has posted nothing, to a state and the message that it posted last. It grows at
-- its end, and does not keep the calls.
pub data Came {U : Type 0} (next : U → Next U) (start : U) : U → Option Posted → Type 0 where
  Began : Came next start start None
  Went : (u v : U) → (last : Option Posted) → Came next start u last → next u ≡ Goes v → Came next start v last
  Leaves : (u v : U) → (last : Option Posted) → (message : Posted) → Came next start u last → next u ≡ Posts message v
      → Came next start v (Some message)
  Passed : (u v : U) → (last : Option Posted) → (to : ℕ) → (head : MessageHead) → (bytes : List ℕ) → Came next start u last
      → next u ≡ Sends to head bytes v → Came next start v last
  Took : (u : U) → (last : Option Posted) → (from : ℕ) → (head : MessageHead) → (bytes : List ℕ) → (take : List ℕ → U)
      → (refuse : MessageHead → U)
      → length bytes ≡ head.len → Came next start u last → next u ≡ Recvs from head take refuse → Came next start (take bytes) last
  Joined : (u v : U) → (last : Option Posted) → (comm : ℕ) → Came next start u last → next u ≡ Bars comm v → Came next start v last
