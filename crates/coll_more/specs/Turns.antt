-- One turn of a collective call.
use Rattle.std.specs.Prelude.{◌≡◌, ◌≢◌, ℕ, ◌+◌, ◌<◌, Bool, true, false, List, drop, Option, Some, None, is_none, slice_get, sum_by}
use Rattle.std.specs.List.{list_all}
use Rattle.scc_base.specs.Calls.{DataCall}
use Rattle.scc_base.specs.Heads.{MessageHead, plain_head}
use Rattle.scc_base.specs.declared.events.Event.{Event}
use Rattle.scc_base.specs.declared.events.Spot.{Spot}
use Rattle.scc_base.specs.declared.layouts.Layout.{Layout}
use Rattle.scc_proto.specs.Messages.{Notes}
use Rattle.scc_proto.specs.Ports.{Did, Seat, Sight, record_in}
use Rattle.scc_proto.specs.Records.{chunk_of}
use Rattle.scc_proto.specs.Resting.{is_resting}
use Rattle.scc_proto.specs.Stages.{Record}
use Rattle.put_get.specs.Cores.{Private}
use Rattle.send_recv.specs.Chunks.{message_bound}
use Rattle.send_recv.specs.Ops.{SlotAt}
use Rattle.send_recv.specs.Ranks.{receiving, sending}
use Rattle.send_recv.specs.Receiving.{RecvDoes, SaysHead, recv_left, aim_of_receive, recv_waits}
use Rattle.send_recv.specs.Sending.{SendDoes, send_left, aim_of_send}
use Rattle.send_recv.specs.Sights.{layout_at}
use Rattle.send_recv.specs.Steps.{goes_on}
use Rattle.send_recv.specs.Tries.{aim_at}
use Rattle.send_recv.specs.Turns.{IsAtRest, KeepsAllButMessages, LastHeld, OnlyTries, StoresFromBuffer}
use Rattle.send_recv.specs.declared.answers.RecvTurn.{RecvTurn}
use Rattle.send_recv.specs.declared.answers.RecvTurn.TheVariants as turn
use Rattle.send_recv.specs.declared.stages.RecvStage.TheVariants.{Header}
use Rattle.sync_flags.specs.Tries.{Aim, Tried, changing_after}
use Rattle.coll_more.specs.Ops.{MoreAt, Participant, bytes_of_piece, table_of, window}
use Rattle.coll_more.specs.Standing.{MoreStands}
use Rattle.coll_more.specs.declared.kinds.PieceCall.{PieceCall}
use Rattle.coll_more.specs.declared.ops.Stage.{Stage}
use Rattle.coll_more.specs.declared.ops.Stage.TheVariants.{Own, Between, Sending, Receiving}

-- the bound of the message of a call
abbrev pub piece_bound : Layout → PieceCall → ℕ
piece_bound layout call = message_bound layout call.len

-- a message counts two more: the turn that begins it, and the one that ends it
abbrev pub call_bound : Layout → PieceCall → ℕ
call_bound layout call = 2 + piece_bound layout call

-- what is left of the messages from this place of the table on
abbrev pub left_from : Seat → MoreAt → ℕ → ℕ
left_from seat op place = sum_by (call_bound seat.setup.layout) (drop place (table_of seat op))

-- how many turns that do not wait are left at most
abbrev pub left_at_stage : Seat → MoreAt → SlotAt → Stage → ℕ
left_at_stage seat op slot Own = 1 + left_from seat op op.ended
left_at_stage seat op slot Between = left_from seat op op.ended
left_at_stage seat op slot (Sending call send) =
    (1 + send_left seat.setup.layout (chunk_of seat.setup) send slot) + left_from seat op (op.ended + 1)
left_at_stage seat op slot (Receiving call receive) = (1 + recv_left (chunk_of seat.setup) receive) + left_from seat op (op.ended + 1)

-- how many turns that do not wait a collective call has left at most
abbrev pub more_left : Seat → MoreAt → SlotAt → ℕ
more_left seat op slot = left_at_stage seat op slot op.stage

-- what the one try of a turn is for: what the message tries for that stands next
abbrev pub stage_aim : Seat → SlotAt → Stage → Option Aim
stage_aim seat slot Own = None
stage_aim seat slot Between = None
stage_aim seat slot (Sending call send) = aim_of_send seat send slot
stage_aim seat slot (Receiving call receive) = aim_of_receive seat receive

-- whether nothing of a collective call is left
abbrev pub is_over_by : List PieceCall → ℕ → Stage → Bool
is_over_by table ended Between = is_none (slice_get table ended)
is_over_by table ended stage = false

-- nothing of a collective call is left
abbrev pub is_more_over : Seat → MoreAt → Bool
is_more_over seat op = is_over_by (table_of seat op) op.ended op.stage

-- a receive that looks at the head of a message has met another one than its own, whose words the record has noted
abbrev pub MetOther : Record → MessageHead → Stage → Type 0
MetOther rec sent (Receiving call receive) =
    (receive.stage ≡ Header) × (sent ≢ plain_head call.len) × (header : Notes) × (rec.notes call.peer ≡ Some header) × SaysHead header sent
MetOther rec sent stage = ⊥

-- the op, the slot and dst are as before, and the record but for what it has seen
pub record IsParticipantStill (old now : Participant) : Type 0 where
  pub same_op : now.op ≡ old.op
  pub same_slot : now.slot ≡ old.slot
  pub same_dst : now.dst ≡ old.dst
  pub rest : IsAtRest (record_in old.sight) (record_in now.sight)

-- what each answer means: Moved alone lowers the number of turns left; Waiting and Mismatch leave all as it was; and Done comes
-- exactly where nothing was left before, and then nothing is done
abbrev pub MoreMeans : Participant → Participant → RecvTurn → Type 0
MoreMeans old now turn.Moved =
    (more_left old.sight.seat now.op now.slot < more_left old.sight.seat old.op old.slot) × (is_more_over old.sight.seat old.op ≡ false)
MoreMeans old now (turn.Waiting spot) = IsParticipantStill old now × (is_more_over old.sight.seat old.op ≡ false)
MoreMeans old now turn.Done =
    (now.op ≡ old.op) × (now.slot ≡ old.slot) × (now.dst ≡ old.dst) × (now.sight ≡ old.sight) × (now.core ≡ old.core)
    × (is_more_over old.sight.seat old.op ≡ true)
MoreMeans old now (turn.Mismatch sent) =
    IsParticipantStill old now × (is_more_over old.sight.seat old.op ≡ false) × MetOther (record_in now.sight) sent old.op.stage

-- what a turn does, by what comes next: what the message in hand does; a copy and a message that begins make no event
abbrev pub MoreDoes : Participant → Stage → (done : Bool) → Sight → Private → Type 0
MoreDoes old Own done t d = (t ≡ old.sight) × (d ≡ old.core)
MoreDoes old Between done t d = (t ≡ old.sight) × (d ≡ old.core)
MoreDoes old (Sending call send) done t d =
    SendDoes (sending old.sight old.core send old.slot (bytes_of_piece call old.src old.dst)) send.stage done t d
MoreDoes old (Receiving call receive) done t d =
    RecvDoes (receiving old.sight old.core receive (window call.first call.len old.dst)) receive.stage done t d

-- one turn of a collective call: what it did, and what it came to
pub record MoreTurned (old now : Participant) (answer : RecvTurn) : Type 0 where
  pub events : List Event
  -- each event was permitted
  pub did : Did old.sight events now.sight
  -- what its message does, and nothing else
  pub does : MoreDoes old old.op.stage (goes_on answer) now.sight now.core
  -- it waits exactly where its one try was vain, at the spot of its message
  pub tried : Tried (stage_aim old.sight.seat old.slot old.op.stage) events (recv_waits answer)
  -- it has freed the register that it took
  pub freed : changing_after false events ≡ false
  -- where it waits, each of its events was a load or a vain take
  pub rests : (spot : Spot) → answer ≡ turn.Waiting spot → list_all is_resting events ≡ true
  -- where it waits, it made that one try and nothing else
  pub only : OnlyTries (aim_at (layout_at old.sight) (recv_waits answer)) events
  pub same : (now.op.more ≡ old.op.more) × (now.op.len ≡ old.op.len)
  pub means : MoreMeans old now answer
  pub rest : KeepsAllButMessages (record_in old.sight) (record_in now.sight)
  -- each header or chunk word that it stored stood in the buffer before
  pub drafts : StoresFromBuffer old.sight.seat.setup old.core events
  -- the line that was loaded last stands in the cache, unless lines were evicted
  pub held : LastHeld events old.core.evictions now.core

-- a turn, after which the op and its rank fit together again
pub record MoreTurns (old now : Participant) (answer : RecvTurn) : Type 0 where
  pub stands : (base : List DataCall) → MoreStands base old → MoreStands base now
  pub turned : MoreTurned old now answer

-- the own piece is copied next
abbrev pub is_copying_own : Stage → Bool
is_copying_own Own = true
is_copying_own stage = false

-- the next message begins, or nothing is left
abbrev pub is_between : Stage → Bool
is_between Between = true
is_between stage = false

-- a send is in hand
abbrev pub has_send_in_hand : Stage → Bool
has_send_in_hand (Sending call send) = true
has_send_in_hand stage = false

-- a receive is in hand
abbrev pub has_receive_in_hand : Stage → Bool
has_receive_in_hand (Receiving call receive) = true
has_receive_in_hand stage = false
