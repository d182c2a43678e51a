-- Where a receive, a send and the slot of a posted message stand.
use Rattle.std.specs.Prelude.{ℕ, Bool, true, false, if◌then◌else◌, Option, Some, None}
use Rattle.scc_base.specs.Heads.{MessageHead}
use Rattle.send_recv.specs.declared.stages.RecvStage.{RecvStage}
use Rattle.send_recv.specs.declared.stages.RecvStage.TheVariants as receive
use Rattle.send_recv.specs.declared.stages.SendStage.{SendStage}
use Rattle.send_recv.specs.declared.stages.SendStage.TheVariants as sending

-- a receive: from whom, with which head, the number of the chunk in hand, and what comes next
pub record RecvAt : Type 0 where
  pub from : ℕ
  pub head : MessageHead
  pub chunk : ℕ
  pub stage : RecvStage

-- a send or a post
pub record SendAt : Type 0 where
  pub to : ℕ
  pub head : MessageHead
  pub posted : Bool
  pub chunk : ℕ
  pub stage : SendStage

-- the slot: to whom a posted message is on its way, and whether its `ready` was seen
pub record SlotAt : Type 0 where
  pub to : Option ℕ
  pub seen : Bool

-- a receive at its start
abbrev pub new_receive : ℕ → MessageHead → RecvAt
new_receive from head = record { from = from; head = head; chunk = 0; stage = receive.Look }

-- a send or a post at its start
abbrev pub new_send : ℕ → MessageHead → Bool → SendAt
new_send to head posted = record { to = to; head = head; posted = posted; chunk = 0; stage = sending.Header }

-- a slot with no message on its way
abbrev pub empty_slot : SlotAt
empty_slot = record { to = None; seen = false }

-- the message is received
abbrev pub is_received : RecvStage → Bool
is_received receive.Finished = true
is_received _ = false

-- the message is sent, or on its way where it is posted
abbrev pub is_sent : SendStage → Bool
is_sent sending.Finished = true
is_sent _ = false

-- how many turns that do not wait are left of a slot, by its target and whether `ready` was seen
abbrev pub slot_left_by : Option ℕ → Bool → ℕ
slot_left_by None seen = 0
slot_left_by (Some to) seen = if seen then 1 else 2

-- how many turns that do not wait are left of a slot
abbrev pub slot_left : SlotAt → ℕ
slot_left slot = slot_left_by slot.to slot.seen
