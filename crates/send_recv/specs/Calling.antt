-- Send, receive and test as whole calls (RCCE specification 2.0: RCCE_send, RCCE_recv, RCCE_recv_test; the
-- bound on vain tries is this project's own).
use Rattle.std.specs.Prelude.{◌≡◌, ◌≢◌, ℕ, ◌+◌, ◌*◌, ◌≤◌, Bool, true, false, List, ◌++◌, Some, None, Result, Ok, Err, slice_index}
use Rattle.std.specs.List.{list_all}
use Rattle.scc_base.specs.Heads.{MessageHead}
use Rattle.scc_base.specs.declared.events.Event.{Event}
use Rattle.scc_base.specs.declared.events.Spot.{Spot}
use Rattle.scc_base.specs.declared.signals.Signal.TheVariants as signal
use Rattle.scc_proto.specs.Messages.{Notes}
use Rattle.scc_proto.specs.Resting.{is_resting}
use Rattle.scc_proto.specs.Stages.{Idle}
use Rattle.scc_proto.specs.Ports.{Seat, Sight, Did, record_in}
use Rattle.put_get.specs.Cores.{Private}
use Rattle.put_get.specs.Transfers.{load_count}
use Rattle.sync_flags.specs.Tries.{Aim, TryFailed, tries_at, failed_tries, all_failed}
use Rattle.sync_flags.specs.Turns.{IsBetweenCalls}
use Rattle.send_recv.specs.declared.calls.RecvStop.{RecvStop}
use Rattle.send_recv.specs.declared.calls.RecvStop.TheVariants.{Stalled, Mismatch}
use Rattle.send_recv.specs.declared.deliveries.SendStop.{SendStop}
use Rattle.send_recv.specs.declared.deliveries.SendStop.TheVariants as send_stop
use Rattle.send_recv.specs.Ops.{RecvAt, SlotAt, is_sent}
use Rattle.send_recv.specs.Ranks.{BufferHolder, Receiver, Sender, SlotHolder, receiving, sending}
use Rattle.send_recv.specs.Sights.{chunk_at, layout_at}
use Rattle.send_recv.specs.Tries.{aim_of}
use Rattle.send_recv.specs.Turns.{HoldsNone, IsSamePost, KeepsAllButMessages, IsAtRest, IsOneTry}
use Rattle.send_recv.specs.Steps.{own_core, signal_flag, flag_spot}
use Rattle.send_recv.specs.Receiving.{RecvStands, SaysHead, IsRecvSpot, recv_spot, recv_call, lines_left, filled_to}
use Rattle.send_recv.specs.Sending.{SlotStands, SendStands, send_spot, send_call}

-- what a receive's look at the sender's `sent` is for
abbrev pub sent_aim : Seat → RecvAt → Aim
sent_aim seat op = aim_of seat.setup.layout (flag_spot (own_core seat) (signal_flag seat signal.Sent op.from))

-- a receive has not stalled: at each spot where it tries, fewer than its last `polls` tries were vain
abbrev pub HasNotStalled : Seat → RecvAt → ℕ → List Event → Type 0
HasNotStalled seat op polls events = (spot : Spot) → IsRecvSpot seat op spot → TryFailed (aim_of seat.setup.layout spot) polls events → ⊥

-- a receive is at its end: the one call more is this one, with the bytes of the buffer
pub record Received (old : Receiver) (polls : ℕ) (now : BufferHolder) : Type 0 where
  pub events : List Event
  pub did : Did old.sight events now.sight
  pub calls : (record_in now.sight).calls ≡ (record_in old.sight).calls ++ recv_call old.op now.bytes
  pub stage : (record_in now.sight).stage ≡ Idle
  pub empty : now.core.out ≡ None
  pub rest : KeepsAllButMessages (record_in old.sight) (record_in now.sight)
  pub post : IsSamePost (record_in old.sight).post (record_in now.sight).post
  pub no_stall : HasNotStalled old.sight.seat old.op polls events
  -- at most four loads for each look at the flag, for each line that was left to load, and for each eviction
  pub work : load_count events + 4 * old.core.evictions
      ≤ 4 * (tries_at (sent_aim old.sight.seat old.op) events + lines_left (layout_at old.sight) (chunk_at old.sight) old.op)
      + 4 * now.core.evictions

-- a receive gave up: the op that is handed back can go on, and the buffer has the chunks that were taken
pub record RecvStalled (old : Receiver) (polls : ℕ) (now : Receiver) (spot : Spot) : Type 0 where
  pub events : List Event
  pub did : Did old.sight events now.sight
  pub tried : TryFailed (aim_of (layout_at old.sight) spot) polls events
  pub at : recv_spot old.sight.seat now.op ≡ Some spot
  pub stands : RecvStands now.sight now.core now.op now.bytes
  pub same : (now.op.from ≡ old.op.from) × (now.op.head ≡ old.op.head)
  pub calls : (record_in now.sight).calls ≡ (record_in old.sight).calls
  pub call_left : (x : List ℕ) → recv_call now.op x ≡ recv_call old.op x
  pub fuller : filled_to (chunk_at old.sight) old.op ≤ filled_to (chunk_at old.sight) now.op
  pub afterwards : (k : ℕ) → filled_to (chunk_at old.sight) now.op ≤ k → slice_index now.bytes k ≡ slice_index old.bytes k
  pub rest : KeepsAllButMessages (record_in old.sight) (record_in now.sight)
  pub post : IsSamePost (record_in old.sight).post (record_in now.sight).post

-- the message that was sent has another head: it stays untaken, and its header words are noted
pub record RecvDiffers (old : Receiver) (polls : ℕ) (now : BufferHolder) (sent asked : MessageHead) : Type 0 where
  pub events : List Event
  pub did : Did old.sight events now.sight
  pub is_asked : asked ≡ old.op.head
  pub other : sent ≢ asked
  pub header : Notes
  pub noted : (record_in now.sight).notes old.op.from ≡ Some header
  pub says : SaysHead header sent
  pub none_filled : filled_to (chunk_at old.sight) old.op ≡ 0
  pub unchanged : now.bytes ≡ old.bytes
  pub untaken : (record_in now.sight).stage ≡ Idle
  pub calls : (record_in now.sight).calls ≡ (record_in old.sight).calls
  pub empty : now.core.out ≡ None
  pub rest : KeepsAllButMessages (record_in old.sight) (record_in now.sight)
  pub post : IsSamePost (record_in old.sight).post (record_in now.sight).post
  pub no_stall : HasNotStalled old.sight.seat old.op polls events

-- a receive has given up at a spot after as many tries as it was allowed, or has met another head
abbrev pub RecvStops : Receiver → ℕ → BufferHolder → RecvStop → Type 0
RecvStops old polls now (Stalled op spot count) = (count ≡ polls) × RecvStalled old polls (receiving now.sight now.core op now.bytes) spot
RecvStops old polls now (Mismatch sent asked) = RecvDiffers old polls now sent asked

-- what a receive comes to
abbrev pub RecvEnds : Receiver → ℕ → BufferHolder → Result Unit RecvStop → Type 0
RecvEnds old polls now (Ok done) = Received old polls now
RecvEnds old polls now (Err stop) = RecvStops old polls now stop

-- the first try of a test found the flag set, and more was done
pub record FoundFirst (aim : Aim) (s t : Sight) : Type 0 where
  pub first : List Event
  pub rest : List Event
  pub did : Did s (first ++ rest) t
  pub one : tries_at aim first ≡ 1
  pub found : all_failed aim false first ≡ false

-- the one look of a test found the flag unset, and nothing else was done
pub record FoundUnset (aim : Aim) (old : Receiver) (now : BufferHolder) : Type 0 where
  pub events : List Event
  pub did : Did old.sight events now.sight
  pub one : tries_at aim events ≡ 1
  pub unset : all_failed aim false events ≡ true
  pub nothing : list_all is_resting events ≡ true
  -- the four loads of the flag's line, and no other
  pub only : IsOneTry aim events
  pub unchanged : now.bytes ≡ old.bytes
  pub at_rest : IsAtRest (record_in old.sight) (record_in now.sight)
  pub empty : now.core.out ≡ None

-- what a test comes to: it answers false exactly where its first look found the flag unset
abbrev pub TestEnds : Receiver → ℕ → BufferHolder → Result Bool RecvStop → Type 0
TestEnds old polls now (Ok false) = FoundUnset (sent_aim old.sight.seat old.op) old now
TestEnds old polls now (Ok true) = FoundFirst (sent_aim old.sight.seat old.op) old.sight now.sight × Received old polls now
TestEnds old polls now (Err stop) = FoundFirst (sent_aim old.sight.seat old.op) old.sight now.sight × RecvStops old polls now stop

-- ---- sends and posts

-- a send is at its end, or a post on its way: the one call more is this one, with the bytes handed in
pub record Sent (old : Sender) (now : SlotHolder) : Type 0 where
  pub events : List Event
  pub did : Did old.sight events now.sight
  pub calls : (record_in now.sight).calls ≡ (record_in old.sight).calls ++ send_call old.op old.bytes
  pub stage : (record_in now.sight).stage ≡ Idle
  pub empty : now.core.out ≡ None
  pub slot_stands : SlotStands now.sight.seat (record_in now.sight) now.slot
  pub posted : old.op.posted ≡ true → is_sent old.op.stage ≡ false → now.slot ≡ record { to = Some old.op.to; seen = false }
  -- a plain send leaves no message on its way, its own or another
  pub plain : old.op.posted ≡ false → is_sent old.op.stage ≡ false → now.slot.to ≡ None
  pub rest : KeepsAllButMessages (record_in old.sight) (record_in now.sight)
  -- no row of vain tries is left, at any spot
  pub no_row : is_sent old.op.stage ≡ false → (aim : Aim) → failed_tries aim events ≡ 0

-- a send or a post gave up: the op that is handed back can go on
pub record SendStalled (old : Sender) (polls : ℕ) (now : Sender) (spot : Spot) : Type 0 where
  pub events : List Event
  pub did : Did old.sight events now.sight
  pub tried : TryFailed (aim_of (layout_at old.sight) spot) polls events
  pub at : send_spot old.sight.seat now.op now.slot ≡ Some spot
  pub stands : SendStands now.sight now.core now.op now.slot now.bytes
  pub same : (now.op.to ≡ old.op.to) × (now.op.head ≡ old.op.head) × (now.op.posted ≡ old.op.posted)
  pub finished : is_sent now.op.stage ≡ is_sent old.op.stage
  pub calls : (record_in now.sight).calls ≡ (record_in old.sight).calls
  pub rest : KeepsAllButMessages (record_in old.sight) (record_in now.sight)

-- what a send comes to
abbrev pub SendEnds : Sender → ℕ → SlotHolder → Result Unit SendStop → Type 0
SendEnds old polls now (Ok done) = Sent old now
SendEnds old polls now (Err (send_stop.Stalled op spot count)) =
    (count ≡ polls) × SendStalled old polls (sending now.sight now.core op now.slot old.bytes) spot

-- ---- between calls

-- the rank is between two calls, holds no register, and its slot is the record's: a message can begin
pub record IsBetweenMessages (s : Sight) (c : Private) (slot : SlotAt) : Type 0 where
  pub between : IsBetweenCalls s c
  pub hands : HoldsNone s.seat.setup.layout (record_in s)
  pub slot_stands : SlotStands s.seat (record_in s) slot
