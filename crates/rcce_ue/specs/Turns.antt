-- One turn of a UE.
use Rattle.std.specs.Prelude.{◌≡◌, ◌⊎◌, ℕ, ◌+◌, ◌<◌, Bool, true, false, ◌&&◌, ◌||◌, not, if◌then◌else◌, List, take, Option, None, is_none}
use Rattle.std.specs.List.{list_all}
use Rattle.scc_base.specs.Heads.{MessageHead}
use Rattle.scc_base.specs.declared.events.Event.{Event}
use Rattle.scc_base.specs.declared.events.Spot.{Spot}
use Rattle.scc_base.specs.declared.events.Turn.{Turn}
use Rattle.scc_base.specs.declared.events.Turn.TheVariants as turn
use Rattle.scc_proto.specs.Resting.{is_resting}
use Rattle.scc_proto.specs.Ports.{Did, Seat, Sight, record_in}
use Rattle.put_get.specs.Cores.{Private}
use Rattle.send_recv.specs.Ops.{SlotAt}
use Rattle.send_recv.specs.Ranks.{receiving, sending, holding_slot}
use Rattle.send_recv.specs.Receiving.{RecvDoes, aim_of_receive}
use Rattle.send_recv.specs.Sending.{SendDoes, SlotDoes, aim_of_send, slot_spot}
use Rattle.send_recv.specs.Steps.{moves_on}
use Rattle.send_recv.specs.Tries.{aim_at}
use Rattle.send_recv.specs.Turns.{IsAtRest, LastHeld, OnlyTries, StoresFromBuffer}
use Rattle.sync_flags.specs.Flags.{flag_value}
use Rattle.sync_flags.specs.Tries.{Aim, Tried}
use Rattle.sync_flags.specs.Turns.{waits_at}
use Rattle.barrier.specs.Flags.{value_at}
use Rattle.barrier.specs.Stages as barrier
use Rattle.barrier.specs.Turns as barrier_turn
use Rattle.script_machine.specs.Local.{Local, local_next}
use Rattle.script_machine.specs.Moves.{bytes_out, is_ended, is_stopped, length_asked}
use Rattle.script_machine.specs.Next.{Next, is_going}
use Rattle.script_machine.specs.Next.Next.{Ends, Goes, Posts, Sends, Recvs, Bars}
use Rattle.rcce_ue.specs.Left.{ue_left}
use Rattle.rcce_ue.specs.Standing.{Tied}
use Rattle.rcce_ue.specs.Ues.{UeView, open_for_next}
use Rattle.rcce_ue.specs.declared.calls.Open.{Open}
use Rattle.rcce_ue.specs.declared.calls.Open.TheVariants.{Nothing, Sending, Receiving, Meeting}

-- a UE has met a mismatch, or it has finished: nothing is left of its program, and its slot is empty
abbrev pub is_over : UeView → Bool
is_over ue = is_stopped ue.machine.local || (is_ended (local_next ue.machine.local) && is_none ue.slot.to)

-- where nothing is left of the program, a turn tries for the slot
abbrev pub slot_aim : Seat → Local → SlotAt → Option Aim
slot_aim seat u slot = if not (is_stopped u) && is_ended (local_next u) then aim_at seat.setup.layout (slot_spot seat slot) else None

-- what the one try of a turn is for: what the call tries for that stands next, or the slot
abbrev pub aim_by : Seat → Local → SlotAt → List Bool → Open → Option Aim
aim_by seat u slot parity Nothing = slot_aim seat u slot
aim_by seat u slot parity (Sending op) = aim_of_send seat op slot
aim_by seat u slot parity (Receiving op) = aim_of_receive seat op
aim_by seat u slot parity (Meeting op) = barrier.barrier_aim_at seat op.comm op.stage (flag_value (value_at parity op.comm))

-- what the one try of a turn of a UE is for, with the parity after the turn
abbrev pub ue_aim : Seat → UeView → List Bool → Option Aim
ue_aim seat ue parity = aim_by seat ue.machine.local ue.slot parity ue.op

-- a UE stays as it is, but for what its core has cached and the bytes that have no message yet
abbrev pub IsUeStill : UeView → UeView → Type 0
IsUeStill ue now = now ≡ record ue { core = now.core; parity = now.parity; inbox = now.inbox }

-- no statement of the rank's own stands next, so that its run has an end that can be told
abbrev pub IsPausing : UeView → Type 0
IsPausing ue = is_going (local_next ue.machine.local) ≡ false

-- what a rank holds behind what stands next: behind its own statement, behind its call, or where a message with another head
-- came to its receive
abbrev pub IsAfter : Next Local → Local → Type 0
IsAfter Ends u = ⊥
IsAfter (Goes after) u = u ≡ after
IsAfter (Posts message after) u = u ≡ after
IsAfter (Sends to head bytes after) u = u ≡ after
IsAfter (Recvs from head take refuse) u = ((bytes : List ℕ) × (u ≡ take bytes)) ⊎ ((sent : MessageHead) × (u ≡ refuse sent))
IsAfter (Bars comm after) u = u ≡ after

-- a UE went one step on: within the call that stands next, or in the slot, and one turn fewer is left; or behind what stood
-- next, and nothing is done yet of what stands next now
pub data WentOn (ue now : UeView) : Type 0 where
  Within : now.machine ≡ ue.machine → ue_left ue ≡ ue_left now + 1 → WentOn ue now
  After : IsAfter (local_next ue.machine.local) now.machine.local → now.op ≡ open_for_next (local_next now.machine.local) → WentOn ue now

-- what each answer means: with Moved alone the UE went on, and the number of turns left falls; and Done comes exactly where the UE was over
-- before, and then nothing is done
abbrev pub UeMeans : UeView → Sight → UeView → Sight → Turn → Type 0
UeMeans ue s now t turn.Moved = (ue_left now < ue_left ue) × (is_over ue ≡ false) × WentOn ue now
UeMeans ue s now t (turn.Waiting spot) =
    IsUeStill ue now × (ue_left now ≡ ue_left ue) × IsAtRest (record_in s) (record_in t) × (is_over ue ≡ false) × IsPausing now
UeMeans ue s now t turn.Done = (now ≡ ue) × (t ≡ s) × (is_over ue ≡ true) × IsPausing now

-- what a turn does where no call stands next: the slot's turn behind the end of the program, and else nothing
abbrev pub AloneDoes : UeView → Sight → (at_end : Bool) → (done : Bool) → Sight → Private → Type 0
AloneDoes ue s true done t d = SlotDoes (holding_slot s ue.core ue.slot) done t d
AloneDoes ue s false done t d = (t ≡ s) × (d ≡ ue.core)

-- what a turn does: what the call does that stands next, with the parity after the turn. Seven parameters: the UE, the
-- parity and the call that is open, whether the try was done, and the sight before and the sight and the core after.
abbrev pub UeDoes : UeView → Sight → (parity : List Bool) → Open → (done : Bool) → Sight → Private → Type 0
UeDoes ue s parity Nothing done t d = AloneDoes ue s (not (is_stopped ue.machine.local) && is_ended (local_next ue.machine.local)) done t d
UeDoes ue s parity (Sending op) done t d =
    SendDoes (sending s ue.core op ue.slot (bytes_out (local_next ue.machine.local))) op.stage done t d
UeDoes ue s parity (Receiving op) done t d =
    RecvDoes (receiving s ue.core op (take (length_asked (local_next ue.machine.local)) ue.inbox)) op.stage done t d
UeDoes ue s parity (Meeting op) done t d = barrier_turn.Does s.seat op.comm op.stage (flag_value (value_at parity op.comm)) s ue.core t d

-- one turn of a UE: what it did, and what it came to
pub record UeTurned (ue : UeView) (s : Sight) (now : UeView) (t : Sight) (answer : Turn) : Type 0 where
  pub events : List Event
  -- each event was permitted
  pub did : Did s events t
  -- what its call or its slot does, and nothing else
  pub does : UeDoes ue s now.parity ue.op (moves_on answer) t now.core
  -- the script, the setup and the rank stay
  pub program : (now.machine.script ≡ ue.machine.script) × (now.machine.setup ≡ ue.machine.setup) × (now.machine.rank ≡ ue.machine.rank)
  -- it waits exactly where its one try was vain, at a spot that its next call or its slot waits at
  pub tried : Tried (ue_aim s.seat ue now.parity) events (waits_at answer)
  -- where it waits, each of its events was a load or a vain take
  pub rests : (spot : Spot) → answer ≡ turn.Waiting spot → list_all is_resting events ≡ true
  -- where it waits, it made that one try and nothing else
  pub only : OnlyTries (aim_at s.seat.setup.layout (waits_at answer)) events
  pub means : UeMeans ue s now t answer
  -- it stores nothing on the heap
  pub heap : (record_in t).heap ≡ (record_in s).heap
  -- each header or chunk word that it stored stood in the buffer before
  pub drafts : StoresFromBuffer s.seat.setup ue.core events
  -- the line that was loaded last stands in the cache, unless lines were evicted
  pub held : LastHeld events ue.core.evictions now.core

-- a turn, after which the UE and the port fit together again
pub record Turns (ue : UeView) (s : Sight) (now : UeView) (t : Sight) (answer : Turn) : Type 0 where
  pub tied : Tied now t
  pub turned : UeTurned ue s now t answer
