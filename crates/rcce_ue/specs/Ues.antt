-- What is seen of a UE, which runs the script of one rank on one core.
use Rattle.std.specs.Prelude.{◌≡◌, ℕ, ◌-◌, ◌^◌, ◌<◌, Bool, true, false, min, List, Option, Some, None, is_none, if◌then◌else◌}
use Rattle.put_get.specs.Cores.{Private}
use Rattle.scc_base.specs.Calls.{DataCall}
use Rattle.scc_base.specs.Calls.DataCall.{Send, Recv, Post, Bar}
use Rattle.scc_base.specs.declared.calls.Call.{Call}
use Rattle.scc_base.specs.declared.calls.Call.TheVariants as call
use Rattle.send_recv.specs.Ops.{SlotAt, new_receive, new_send}
use Rattle.barrier.specs.Stages.{new_barrier}
use Rattle.script_rules.specs.Script.{rules_of}
use Rattle.script_rules.specs.Settled.{IsWholeScript}
use Rattle.script_machine.specs.Local.{local_next}
use Rattle.script_machine.specs.Machine.{MachineView}
use Rattle.script_machine.specs.Moves.{line_out}
use Rattle.script_machine.specs.Next.{Next, call_next}
use Rattle.script_machine.specs.declared.posts.InFlight.{InFlight}
use Rattle.rcce_ue.specs.declared.calls.Open.{Open}
use Rattle.rcce_ue.specs.declared.calls.Open.TheVariants.{Nothing, Sending, Receiving, Meeting}

-- the machine that runs the rank's program, the core, the slot of the posted message, the values of the own gather flags,
-- the call at which the rank stands as far as it has come, the bytes that a receive has so far, the message that was posted
-- last, and how many messages were sent with how many bytes
pub record UeView : Type 0 where
  pub machine : MachineView
  pub core : Private
  pub slot : SlotAt
  pub parity : List Bool
  pub op : Open
  pub inbox : List ℕ
  pub posted : Option InFlight
  pub sent : ℕ
  pub sent_bytes : ℕ

-- a machine of a script that was read, with a setup of as many ranks and with its communicators
pub record IsBegun (m : MachineView) : Type 0 where
  pub whole : IsWholeScript m.script.nue m.script.items
  pub ranks : m.setup.nue ≡ m.script.nue
  pub comms : m.setup.comms ≡ rules_of m.script.items
  pub within : m.rank < m.script.nue

-- a call of which nothing is done yet
abbrev pub open_for : Option Call → Open
open_for (Some (call.Post to head)) = Sending (new_send to head true)
open_for (Some (call.Send to head)) = Sending (new_send to head false)
open_for (Some (call.Recv from head)) = Receiving (new_receive from head)
open_for (Some (call.Bar comm)) = Meeting (new_barrier comm)
open_for None = Nothing

-- the call that stands next, of which nothing is done yet
abbrev pub open_for_next : {U : Type 0} → Next U → Open
open_for_next next = open_for (call_next next)

-- a UE that stands at the next call of its machine, of which nothing is done yet
abbrev pub at_next_call : UeView → UeView
at_next_call ue = record ue { op = open_for_next (local_next ue.machine.local) }

-- a count stops at the largest value of u64
abbrev pub capped_count : ℕ → ℕ
capped_count n = min n (2 ^ 64 - 1)

-- whether a call sends a message
abbrev pub is_send_call : DataCall → Bool
is_send_call (Send to head bytes) = true
is_send_call (Post to head bytes) = true
is_send_call (Recv from head bytes) = false
is_send_call (Bar comm) = false

-- the message that a call leaves behind, where it is a post of this line, and the earlier one where it is none
abbrev pub post_left : Option Call → ℕ → Option InFlight → Option InFlight
post_left (Some (call.Post to head)) line earlier = Some (record { line = line; to = to; head = head })
post_left (Some (call.Send to head)) line earlier = earlier
post_left (Some (call.Recv from head)) line earlier = earlier
post_left (Some (call.Bar comm)) line earlier = earlier
post_left None line earlier = earlier

-- the message that a post leaves behind, where a post stands next
abbrev pub posted_by : {U : Type 0} → Next U → Option InFlight → Option InFlight
posted_by next earlier = post_left (call_next next) (line_out next) earlier

-- the message in the slot, where it is full
abbrev pub in_slot : {X : Type 0} → SlotAt → Option X → Option X
in_slot slot message = if is_none slot.to then None else message
