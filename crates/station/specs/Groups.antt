-- Where a rank stands in a collective call over a communicator, and what the call comes to.
use Rattle.std.specs.Prelude.{◌≡◌, ◌≢◌, ℕ, ◌%◌, ◌==◌, ◌≤◌, false, List, ◌++◌, length, take, Option, Some, None, slice_get, slice_index}
use Rattle.scc_base.specs.Calls.{DataCall}
use Rattle.scc_base.specs.Heads.{MessageHead}
use Rattle.scc_base.specs.Setups.{place_of}
use Rattle.scc_base.specs.declared.events.Event.{Event}
use Rattle.scc_base.specs.declared.events.Spot.{Spot}
use Rattle.scc_proto.specs.Messages.{Notes}
use Rattle.scc_proto.specs.Ports.{Did, Seat, Sight, record_in}
use Rattle.sync_flags.specs.Tries.{TryFailed}
use Rattle.send_recv.specs.Ops.{RecvAt, SendAt, is_received, is_sent}
use Rattle.send_recv.specs.Receiving.{SaysHead, filled_to, recv_spot}
use Rattle.send_recv.specs.Sending.{send_spot}
use Rattle.send_recv.specs.Sights.{chunk_at, layout_at}
use Rattle.send_recv.specs.Tries.{aim_of}
use Rattle.groups.specs.Collectives.{IsCallable, comm_of, root_place, steps_of}
use Rattle.groups.specs.Folds.{CanFold, bytes_in as value_bytes}
use Rattle.groups.specs.declared.collectives.Coll.{Coll}
use Rattle.groups.specs.declared.collectives.Coll.TheVariants.{Bcast, Reduce, Allreduce}
use Rattle.groups.specs.declared.collectives.Step.{Step}
use Rattle.groups.specs.declared.collectives.Step.TheVariants as of_step
use Rattle.station.specs.Calls.{OnlyMessages}
use Rattle.station.specs.Stations.{IsInReceive, IsInSend, NoCallOpen, StationAt}
use Rattle.station.specs.Steps.{Held, GroupPart, StepDoes, StepsDo, bytes_into, bytes_sent_by, with_received}
use Rattle.station.specs.declared.steps.Folding.{Folding}
use Rattle.station.specs.declared.steps.GroupOp.{GroupOp}
use Rattle.station.specs.declared.steps.Hand.{Hand}
use Rattle.station.specs.declared.steps.Hand.TheVariants.{Between, Sending, Receiving}
use Rattle.station.specs.declared.steps.StepStop.{StepStop}
use Rattle.station.specs.declared.steps.StepStop.TheVariants as stop
use Rattle.station.specs.declared.stops.RecvStop.{RecvStop}
use Rattle.station.specs.declared.stops.RecvStop.TheVariants as recv_stop
use Rattle.station.specs.declared.stops.GroupStop.{GroupStop}
use Rattle.station.specs.declared.stops.GroupStop.TheVariants.{Stalled, Mismatch}

-- ---- one step

-- what a fold asks of the buffers, where the call folds
abbrev pub FoldFits : Option Folding → (output work : List ℕ) → Type 0
FoldFits None output work = Unit {0}
FoldFits (Some how) output work = CanFold how.ty output work

-- what a step asks of the buffers
abbrev pub StepFits : GroupPart → Held → Step → Type 0
StepFits p held of_step.Begin = length p.input ≡ length held.output
StepFits p held (of_step.Send to head) = length (bytes_sent_by p held) ≡ head.len
StepFits p held (of_step.Recv from head) = length (bytes_into p.is_root held) ≡ head.len
StepFits p held of_step.Fold = FoldFits p.folding held.output held.work
StepFits p held of_step.Accept = Unit {0}
StepFits p held of_step.Finish = Unit {0}

-- what is seen of a rank in a step of its call
pub record StepRank : Type 0 where
  pub sight : Sight
  pub station : StationAt
  pub part : GroupPart
  pub held : Held

-- a rank in a step, by what its port and its station show, how it takes part, and its buffers
abbrev pub in_step : Sight → StationAt → GroupPart → Held → StepRank
in_step sight station part held = record { sight = sight; station = station; part = part; held = held }

-- the buffer is as it was from byte `size` on, which a receive has not reached yet
abbrev pub IsFilledFrom : (size : ℕ) → (old new : List ℕ) → Type 0
IsFilledFrom size old new = (k : ℕ) → size ≤ k → slice_index new k ≡ slice_index old k

-- the rank stands in the send that comes next, with the buffers as before it
pub record IsInStepSend (before : Held) (r : StepRank) (next : Option Step) (op : SendAt) : Type 0 where
  pub next_is : next ≡ Some (of_step.Send op.to op.head)
  pub plain : op.posted ≡ false
  pub unended : is_sent op.stage ≡ false
  pub held_is : r.held ≡ before
  pub stands : IsInSend r.sight r.station op (bytes_sent_by r.part before)

-- the rank stands in the receive that comes next, of which its buffer has the chunks that were taken
pub record IsInStepReceive (before : Held) (r : StepRank) (next : Option Step) (op : RecvAt) : Type 0 where
  pub next_is : next ≡ Some (of_step.Recv op.from op.head)
  pub long : length (bytes_into r.part.is_root before) ≡ op.head.len
  pub unended : is_received op.stage ≡ false
  pub bytes : List ℕ
  pub held_is : r.held ≡ with_received r.part.is_root bytes before
  pub afterwards : IsFilledFrom (filled_to (chunk_at r.sight) op) (bytes_into r.part.is_root before) bytes
  pub stands : IsInReceive r.sight r.station op bytes

-- the rank is between two messages, with the buffers as before the step that comes next
pub record IsAtStart (before : Held) (r : StepRank) : Type 0 where
  pub held_is : r.held ≡ before
  pub free : NoCallOpen r.sight r.station

-- the rank stands in the step that comes next as the message in hand says
abbrev pub StandsInStep : (before : Held) → StepRank → Option Step → Hand → Type 0
StandsInStep before r next Between = IsAtStart before r
StandsInStep before r next (Sending op) = IsInStepSend before r next op
StandsInStep before r next (Receiving op) = IsInStepReceive before r next op

-- a step that began with these buffers is done: it did what it does, and the record has gained its calls
pub record HasStepped (before : Held) (step : Step) (from : Sight) (now : StepRank) : Type 0 where
  pub calls : List DataCall
  pub does : StepDoes now.part step before now.held calls
  pub made : (record_in now.sight).calls ≡ (record_in from).calls ++ calls
  pub free : NoCallOpen now.sight now.station

-- the spot at which the message in hand makes its one try
abbrev pub hand_spot : Seat → StationAt → Hand → Option Spot
hand_spot seat a Between = None
hand_spot seat a (Sending op) = send_spot seat op a.slot
hand_spot seat a (Receiving op) = recv_spot seat op

-- the message in hand gave up: the last `polls` tries since `from` were vain, all where it looks
pub record HandStalled (from : Sight) (polls : ℕ) (now : StepRank) (hand : Hand) (spot : Spot) : Type 0 where
  pub events : List Event
  pub did : Did from events now.sight
  pub tried : TryFailed (aim_of (layout_at from) spot) polls events
  pub looks : hand_spot from.seat now.station hand ≡ Some spot

-- a receive met another head than it asked for, whose words the record has noted
pub record HandDiffers (next : Option Step) (now : Sight) (sent asked : MessageHead) : Type 0 where
  pub from : ℕ
  pub next_is : next ≡ Some (of_step.Recv from asked)
  pub other : sent ≢ asked
  pub header : Notes
  pub noted : (record_in now).notes from ≡ Some header
  pub says : SaysHead header sent

-- why a step stopped, which began here: its message gave up, or it met another head
abbrev pub SaysWhyStep : Option Step → (from : Sight) → (polls : ℕ) → StepRank → StepStop → Type 0
SaysWhyStep next from polls now (stop.Stalled hand spot count) = (count ≡ polls) × HandStalled from polls now hand spot
SaysWhyStep next from polls now (stop.Mismatch sent asked) = HandDiffers next now.sight sent asked

-- a step that gave up stands in its message; one that met another head is as at its start
abbrev pub StepLeaves : (before : Held) → Option Step → StepRank → StepStop → Type 0
StepLeaves before next now (stop.Stalled hand spot count) = StandsInStep before now next hand
StepLeaves before next now (stop.Mismatch sent asked) = IsAtStart before now

-- a receive's stop in the words of a step
abbrev pub step_stop_of : RecvStop → StepStop
step_stop_of (recv_stop.Stalled stall) = stop.Stalled (Receiving stall.op) stall.spot stall.polls
step_stop_of (recv_stop.Mismatch sent asked) = stop.Mismatch sent asked

-- a step's stop in the words of a call
abbrev pub group_stop_of : Coll → Option Folding → ℕ → StepStop → GroupStop
group_stop_of coll folding at (stop.Stalled hand spot polls) =
    Stalled (record { op = record { coll = coll; folding = folding; at = at; hand = hand }; spot = spot; polls = polls })
group_stop_of coll folding at (stop.Mismatch sent asked) =
    Mismatch (record { coll = coll; folding = folding; at = at; hand = Between }) sent asked

-- ---- a whole call

-- what is seen of a rank in a collective call over a communicator
pub record GroupRank : Type 0 where
  pub sight : Sight
  pub station : StationAt
  pub op : GroupOp
  pub input : List ℕ
  pub held : Held

-- a rank in a collective call, by what its port and its station show, where the call stands, and the caller's bytes
abbrev pub in_group_call : Sight → StationAt → GroupOp → List ℕ → Held → GroupRank
in_group_call sight station op input held = record { sight = sight; station = station; op = op; input = input; held = held }

-- a call at its start
abbrev pub new_group : Coll → Option Folding → GroupOp
new_group coll folding = record { coll = coll; folding = folding; at = 0; hand = Between }

-- the caller's two buffers
abbrev pub held_in : (output work : List ℕ) → Held
held_in output work = record { output = output; work = work }

-- how the rank of a seat takes part in a call
abbrev pub part_in : Seat → GroupOp → List ℕ → GroupPart
part_in seat op input =
    record { is_root = place_of seat.setup (comm_of op.coll) seat.rank == root_place op.coll; folding = op.folding; input = input }

-- the steps of a call at a seat
abbrev pub steps_at : Seat → GroupOp → List Step
steps_at seat op = steps_of seat.setup seat.rank op.coll

-- buffers of one length that are folded: whole values of the type
pub record IsFoldable (how : Folding) (len : ℕ) (input : List ℕ) (held : Held) : Type 0 where
  pub whole : len % value_bytes how.ty ≡ 0
  pub input_is : length input ≡ len
  pub output_is : length held.output ≡ len
  pub work_is : length held.work ≡ len

-- the buffers have the call's length; a reduction says how it folds, and is of whole values
abbrev pub AreFit : Coll → Option Folding → (input : List ℕ) → Held → Type 0
AreFit (Bcast comm root len) folding input held = length held.output ≡ len
AreFit (Reduce comm root len) (Some how) input held = IsFoldable how len input held
AreFit (Allreduce comm len) (Some how) input held = IsFoldable how len input held
AreFit coll None input held = ⊥

-- where a call began: the calls of the record before it, and what the buffers held
pub record GroupStart : Type 0 where
  pub calls : List DataCall
  pub held : Held

-- where a call begins: the calls of the record so far, and what the buffers hold
abbrev pub start_at : Sight → Held → GroupStart
start_at s held = record { calls = (record_in s).calls; held = held }

-- the first steps of a call are done: they made these calls, which the record has gained, and left these buffers
pub record HaveRun (start : GroupStart) (steps : List Step) (r : GroupRank) (after : Held) : Type 0 where
  pub calls : List DataCall
  pub did : StepsDo (part_in r.sight.seat r.op r.input) steps start.held after calls
  pub made : (record_in r.sight).calls ≡ start.calls ++ calls

-- a rank stands in this call, which began at `start`: its first `r.op.at` steps are done, and it is in the next one as
-- the message in hand says
pub record IsInGroup (start : GroupStart) (r : GroupRank) : Type 0 where
  pub callable : IsCallable r.sight.seat.setup r.sight.seat.rank r.op.coll
  pub fits : AreFit r.op.coll r.op.folding r.input r.held
  pub before : Held
  pub run : HaveRun start (take r.op.at (steps_at r.sight.seat r.op)) r before
  pub stands : StandsInStep before (in_step r.sight r.station (part_in r.sight.seat r.op r.input) r.held)
      (slice_get (steps_at r.sight.seat r.op) r.op.at) r.op.hand

-- a call that began at `start` is at its end: all its steps are done, and the rank is between two calls
pub record HasRunGroup (start : GroupStart) (r : GroupRank) : Type 0 where
  pub run : HaveRun start (steps_at r.sight.seat r.op) r r.held
  pub free : NoCallOpen r.sight r.station

-- where a call stands that stopped
abbrev pub op_in : GroupStop → GroupOp
op_in (Stalled stall) = stall.op
op_in (Mismatch op sent asked) = op

-- why a call that stands at `now` stopped: its earlier messages are done, and the one in hand gave up or met another head
abbrev pub SaysWhyGroup : (old : Sight) → (polls : ℕ) → GroupRank → GroupStop → Type 0
SaysWhyGroup old polls now (Stalled stall) = (stall.polls ≡ polls) × (from : Sight) × OnlyMessages old from
    × HandStalled from polls (in_step now.sight now.station (part_in now.sight.seat now.op now.input) now.held) now.op.hand stall.spot
SaysWhyGroup old polls now (Mismatch op sent asked) = (op.hand ≡ Between)
    × HandDiffers (slice_get (steps_at now.sight.seat op) op.at) now.sight sent asked

-- a call that stopped is the call that began
pub record IsSameCall (old now : GroupOp) : Type 0 where
  pub coll : now.coll ≡ old.coll
  pub folding : now.folding ≡ old.folding
