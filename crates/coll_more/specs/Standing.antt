-- How a collective call and the record of its rank fit together: the record has gained the calls of the table that have ended,
-- with the bytes of src and dst, and stands where the op stands in its message.
use Rattle.std.specs.Prelude.{◌≡◌, ℕ, ◌≤◌, true, false, List, ◌++◌, length, Some, slice_get}
use Rattle.scc_base.specs.Calls.{DataCall}
use Rattle.scc_base.specs.Heads.{plain_head}
use Rattle.scc_proto.specs.Ports.{Sight, record_in}
use Rattle.put_get.specs.Cores.{Private}
use Rattle.send_recv.specs.Calling.{IsBetweenMessages}
use Rattle.send_recv.specs.Ops.{RecvAt, SendAt, SlotAt, is_received, is_sent}
use Rattle.send_recv.specs.Receiving.{RecvStands}
use Rattle.send_recv.specs.Sending.{SendStands, SlotStands}
use Rattle.coll_more.specs.Ops.{HasOwn, Participant, bytes_of_piece, data_calls, ended_calls, is_copied, is_taking, table_of, window}
use Rattle.coll_more.specs.Tables.{dst_len_of, src_len_of}
use Rattle.coll_more.specs.declared.kinds.More.{More}
use Rattle.coll_more.specs.declared.kinds.PieceCall.{PieceCall}
use Rattle.coll_more.specs.declared.ops.Stage.{Stage}
use Rattle.coll_more.specs.declared.ops.Stage.TheVariants.{Own, Between, Sending, Receiving}

-- a piece has at most 1,024 bytes, and src and dst have the lengths of their kind and rank
pub record IsFit (more : More) (rank nue len : ℕ) (src dst : List ℕ) : Type 0 where
  pub short : len ≤ 1024
  pub src_is : length src ≡ src_len_of more rank nue len
  pub dst_is : length dst ≡ dst_len_of more rank nue len

-- this is the send of that message, and it is not at its end
pub record IsSendOfPiece (call : PieceCall) (op : SendAt) : Type 0 where
  pub way : is_taking call.way ≡ false
  pub to : op.to ≡ call.peer
  pub head : op.head ≡ plain_head call.len
  pub plain : op.posted ≡ false
  pub unended : is_sent op.stage ≡ false

-- this is the receive of that message, and it is not at its end
pub record IsRecvOfPiece (call : PieceCall) (op : RecvAt) : Type 0 where
  pub way : is_taking call.way ≡ true
  pub from : op.from ≡ call.peer
  pub head : op.head ≡ plain_head call.len
  pub unended : is_received op.stage ≡ false

-- the record, the core, the slot and the bytes stand where the message stands that comes next in the table. Eight
-- parameters: what stands (the sight, the core, the slot), where the call is (the table, how many of its messages ended, the
-- stage), and the bytes that it gives and gets.
abbrev pub StandsAt : Sight → Private → SlotAt → List PieceCall → ℕ → (src dst : List ℕ) → Stage → Type 0
StandsAt s c slot table ended src dst Own = (ended ≡ 0) × IsBetweenMessages s c slot
StandsAt s c slot table ended src dst Between = IsBetweenMessages s c slot
StandsAt s c slot table ended src dst (Sending call op) =
    (slice_get table ended ≡ Some call) × IsSendOfPiece call op × SendStands s c op slot (bytes_of_piece call src dst)
StandsAt s c slot table ended src dst (Receiving call op) =
    (slice_get table ended ≡ Some call) × IsRecvOfPiece call op × SlotStands s.seat (record_in s) slot
    × RecvStands s c op (window call.first call.len dst)

-- a collective call fits the record, the core, the slot and the bytes at its rank; these calls had the record before it
pub record MoreStands (base : List DataCall) (r : Participant) : Type 0 where
  pub fits : IsFit r.op.more r.sight.seat.rank r.sight.seat.setup.nue r.op.len r.src r.dst
  pub calls : (record_in r.sight).calls ≡ base ++ ended_calls r.sight.seat r.op r.src r.dst
  pub own : is_copied r.op.stage ≡ true → HasOwn r.op.more r.sight.seat.rank r.op.len r.src r.dst
  pub at : StandsAt r.sight r.core r.slot (table_of r.sight.seat r.op) r.op.ended r.src r.dst r.op.stage

-- a collective call fits, whatever calls were made before it
abbrev pub Stands : Participant → Type 0
Stands r = (base : List DataCall) × MoreStands base r

-- a collective call is at its end: the record has gained exactly the calls of its table, with the bytes of src and dst, the own
-- piece stands in dst, and the rank is in no call
pub record HasEnded (base : List DataCall) (r : Participant) : Type 0 where
  pub calls : (record_in r.sight).calls ≡ base ++ data_calls r.op.more r.sight.seat.rank r.sight.seat.setup.nue r.op.len r.src r.dst
  pub own : HasOwn r.op.more r.sight.seat.rank r.op.len r.src r.dst
  pub no_call : IsBetweenMessages r.sight r.core r.slot
