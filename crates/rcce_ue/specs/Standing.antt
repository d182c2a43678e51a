-- How a UE and the record of its rank fit together: the record's calls are those that the rank has done of its program, and
-- the call that stands next is as far in the record as in the UE.
use Rattle.std.specs.Prelude.{◌≡◌, ◌≢◌, ◌⊎◌, ℕ, Bool, true, false, List, length, take, Option, Some, None, option_map, sum_by}
use Rattle.std.specs.List.{count_by}
use Rattle.scc_base.specs.Calls.{DataCall}
use Rattle.scc_base.specs.Calls.DataCall.{Send, Recv, Post, Bar}
use Rattle.scc_base.specs.Heads.{MessageHead, most_message}
use Rattle.scc_proto.specs.Messages.{Notes}
use Rattle.scc_proto.specs.Ports.{Sight, record_in}
use Rattle.scc_proto.specs.Stages.{Record}
use Rattle.put_get.specs.Cores.{Private}
use Rattle.sync_flags.specs.Turns.{IsBetweenCalls}
use Rattle.send_recv.specs.Ops.{RecvAt, SendAt, SlotAt, is_received, is_sent}
use Rattle.send_recv.specs.Calling.{IsBetweenMessages}
use Rattle.send_recv.specs.Receiving.{RecvStands, SaysHead}
use Rattle.send_recv.specs.Sending.{SendStands, SlotStands}
use Rattle.barrier.specs.Flags.{IsParityOf}
use Rattle.barrier.specs.Stages.{BarAt, BarStands, is_bar_finished}
use Rattle.plain_meaning.specs.Collectives.{start_of_rank}
use Rattle.script_machine.specs.Local.{Local, local_next}
use Rattle.script_machine.specs.Machine.{in_flight}
use Rattle.plain_meaning.specs.Meaning.{State, next_of}
use Rattle.script_machine.specs.Moves.{bytes_out, is_stopped, length_asked}
use Rattle.script_machine.specs.Next.{Next}
use Rattle.script_machine.specs.Next.Next.{Ends, Goes, Posts, Sends, Recvs, Bars}
use Rattle.plain_meaning.specs.Paths.{Came}
use Rattle.script_machine.specs.declared.posts.Posted.{Posted}
use Rattle.rcce_ue.specs.Ues.{IsBegun, UeView, capped_count, is_send_call}
use Rattle.rcce_ue.specs.declared.calls.Open.{Open}
use Rattle.rcce_ue.specs.declared.calls.Open.TheVariants.{Nothing, Sending, Receiving, Meeting}

-- what a rank holds, with the calls that it has done
abbrev pub state_at : Local → List DataCall → State
state_at u calls = record { local = u; matched = calls }

-- from its start a rank comes by itself to what it holds, with the record's calls and with this message posted last; or it
-- came so to a receive, and was stopped there by a message whose header the record has noted, and which has another head
pub data Stood (start : State) (rec : Record) (u : Local) (last : Option Posted) : Type 0 where
  Runs : Came next_of start (state_at u rec.calls) last → Stood start rec u last
  Refused : (v : Local) → (from : ℕ) → (head : MessageHead) → (sent : MessageHead) → (take : List ℕ → Local)
      → (refuse : MessageHead → Local) → (header : Notes)
      → Came next_of start (state_at v rec.calls) last → local_next v ≡ Recvs from head take refuse → sent ≢ head
      → rec.notes from ≡ Some header → SaysHead header sent → u ≡ refuse sent → is_stopped u ≡ true → Stood start rec u last

-- no call stands next
abbrev pub IsNoCall : Next Local → Type 0
IsNoCall Ends = Unit {0}
IsNoCall (Goes after) = Unit {0}
IsNoCall _ = ⊥

-- this is the send or the post that stands next, and it is not at its end
abbrev pub IsSendOf : SendAt → Next Local → Type 0
IsSendOf op (Posts message after) = (op.to ≡ message.to) × (op.head ≡ message.head) × (op.posted ≡ true) × (is_sent op.stage ≡ false)
IsSendOf op (Sends to head bytes after) = (op.to ≡ to) × (op.head ≡ head) × (op.posted ≡ false) × (is_sent op.stage ≡ false)
IsSendOf op _ = ⊥

-- this is the receive that stands next, and it is not at its end
abbrev pub IsRecvOf : RecvAt → Next Local → Type 0
IsRecvOf op (Recvs from head take refuse) = (op.from ≡ from) × (op.head ≡ head) × (is_received op.stage ≡ false)
IsRecvOf op _ = ⊥

-- this is the barrier that stands next, and it is not at its end
abbrev pub IsBarOf : BarAt → Next Local → Type 0
IsBarOf op (Bars comm after) = (op.comm ≡ comm) × (is_bar_finished op.stage ≡ false)
IsBarOf op _ = ⊥

-- what a rank keeps to itself: its core, the slot of its posted message, and the values of its own gather flags
pub record OwnState : Type 0 where
  pub core : Private
  pub slot : SlotAt
  pub parity : List Bool

-- that of a rank with this core, slot and parity
abbrev pub keeping : Private → SlotAt → List Bool → OwnState
keeping core slot parity = record { core = core; slot = slot; parity = parity }

-- the rank is between two calls, and what it keeps is the record's: any message and any barrier can begin
pub record IsFree (s : Sight) (own : OwnState) : Type 0 where
  pub messages : IsBetweenMessages s own.core own.slot
  pub parity : IsParityOf (record_in s) own.parity

-- the record, the core and the bytes stand where the call stands that comes next. Seven parameters: what stands (the sight,
-- the core, the slot, the parity, the bytes received so far), the call that is open, and what is next in the program.
abbrev pub OpStands : Sight → Private → SlotAt → List Bool → List ℕ → Open → Next Local → Type 0
OpStands s c slot parity inbox Nothing next = IsBetweenCalls s c × IsNoCall next
OpStands s c slot parity inbox (Sending op) next = SendStands s c op slot (bytes_out next) × IsSendOf op next
OpStands s c slot parity inbox (Receiving op) next = RecvStands s c op (take (length_asked next) inbox) × IsRecvOf op next
OpStands s c slot parity inbox (Meeting op) next = BarStands s c op parity × IsBarOf op next

-- how many bytes a call sends
abbrev pub bytes_sent : DataCall → ℕ
bytes_sent (Send to head bytes) = length bytes
bytes_sent (Post to head bytes) = length bytes
bytes_sent (Recv from head bytes) = 0
bytes_sent (Bar comm) = 0

-- the slot is empty, or has the target of the message that was posted last
abbrev pub IsLastTarget : SlotAt → Option Posted → Type 0
IsLastTarget slot last = (slot.to ≡ None) ⊎ (slot.to ≡ option_map (λ (m : Posted). m.to) last)

-- a UE and the port of its rank fit together
pub record Tied (ue : UeView) (s : Sight) : Type 0 where
  pub begun : IsBegun ue.machine
  pub setup_is : s.seat.setup ≡ ue.machine.setup
  pub rank_is : s.seat.rank ≡ ue.machine.rank
  pub last : Option Posted
  -- the record's calls are those that the rank has done of its program
  pub stood : Stood (start_of_rank ue.machine.script ue.machine.rank) (record_in s) ue.machine.local last
  -- the call that stands next is as far as the record says
  pub stands : OpStands s ue.core ue.slot ue.parity ue.inbox ue.op (local_next ue.machine.local)
  -- no register is held between turns
  pub hands : (core : ℕ) → (record_in s).held core ≡ None
  -- the slot and the parity are the record's
  pub slot_is : SlotStands s.seat (record_in s) ue.slot
  pub parity_is : IsParityOf (record_in s) ue.parity
  pub room : length ue.inbox ≡ most_message
  -- the message posted last, which is the one in the slot
  pub posted_is : ue.posted ≡ option_map in_flight last
  pub target : IsLastTarget ue.slot last
  -- what was sent is what the record's calls have sent
  pub sent_is : ue.sent ≡ capped_count (count_by is_send_call (record_in s).calls)
  pub bytes_are : ue.sent_bytes ≡ capped_count (sum_by bytes_sent (record_in s).calls)
