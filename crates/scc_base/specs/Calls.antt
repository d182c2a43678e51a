-- Calls with their bytes, and the messages that they move.
use Rattle.std.specs.Prelude.{◌≡◌, ℕ, List, length}
use Rattle.scc_base.specs.Heads.{MessageHead}
use Rattle.scc_base.specs.declared.calls.Call.{Call}
use Rattle.scc_base.specs.declared.calls.Call.TheVariants as call

-- a call of a rank with the bytes that it moves (RCCE specification 2.0; a post is this project's own)
pub data DataCall : Type 0 where
  Send : (to : ℕ) → (head : MessageHead) → (bytes : List ℕ) → DataCall
  Recv : (from : ℕ) → (head : MessageHead) → (bytes : List ℕ) → DataCall
  Post : (to : ℕ) → (head : MessageHead) → (bytes : List ℕ) → DataCall
  Bar : (comm : ℕ) → DataCall

-- a message: its head and its bytes
pub record Message : Type 0 where
  pub head : MessageHead
  pub bytes : List ℕ

-- a call without its bytes
abbrev pub call_of : DataCall → Call
call_of (Send to head bytes) = call.Send to head
call_of (Recv from head bytes) = call.Recv from head
call_of (Post to head bytes) = call.Post to head
call_of (Bar comm) = call.Bar comm

-- how many bytes a call moves
abbrev pub bytes_asked : Call → ℕ
bytes_asked (call.Send to head) = head.len
bytes_asked (call.Recv from head) = head.len
bytes_asked (call.Post to head) = head.len
bytes_asked (call.Bar comm) = 0

-- the bytes of a call have its head's length
abbrev pub HasItsBytes : DataCall → Type 0
HasItsBytes (Send to head bytes) = length bytes ≡ head.len
HasItsBytes (Recv from head bytes) = length bytes ≡ head.len
HasItsBytes (Post to head bytes) = length bytes ≡ head.len
HasItsBytes (Bar comm) = Unit {0}
