-- Where a collective call stands at a rank (this project's profile).
use Rattle.std.specs.Prelude.{◌≡◌, ℕ, ◌*◌, Bool, true, false, List, drop, map, take}
use Rattle.scc_base.specs.Calls.{DataCall}
use Rattle.scc_base.specs.Calls.DataCall.{Send, Recv}
use Rattle.scc_base.specs.Heads.{plain_head}
use Rattle.scc_proto.specs.Ports.{Seat, Sight}
use Rattle.put_get.specs.Cores.{Private}
use Rattle.send_recv.specs.Ops.{SlotAt, new_receive, new_send}
use Rattle.coll_more.specs.Tables.{piece_calls, has_own}
use Rattle.coll_more.specs.declared.kinds.More.{More}
use Rattle.coll_more.specs.declared.kinds.PieceCall.{PieceCall}
use Rattle.coll_more.specs.declared.kinds.Way.{Way}
use Rattle.coll_more.specs.declared.kinds.Way.TheVariants.{Gives, Shares, Takes}
use Rattle.coll_more.specs.declared.ops.Stage.{Stage}
use Rattle.coll_more.specs.declared.ops.Stage.TheVariants.{Own, Sending, Receiving}

-- a collective call of a rank: which one, how long a piece is, how many of its messages have ended, and what comes next
pub record MoreAt : Type 0 where
  pub more : More
  pub len : ℕ
  pub ended : ℕ
  pub stage : Stage

-- what is seen of a rank in a collective call
pub record Participant : Type 0 where
  pub sight : Sight
  pub core : Private
  pub op : MoreAt
  pub slot : SlotAt
  pub src : List ℕ
  pub dst : List ℕ

-- a rank that takes part in a collective call, by what its port and its core show, where the call stands, its slot, and the
-- caller's bytes
abbrev pub taking_part : Sight → Private → MoreAt → SlotAt → (src dst : List ℕ) → Participant
taking_part sight core op slot src dst = record { sight = sight; core = core; op = op; slot = slot; src = src; dst = dst }

-- a collective call at its start
abbrev pub new_more : More → ℕ → MoreAt
new_more more len = record { more = more; len = len; ended = 0; stage = Own }

-- the `len` bytes from byte `first` on
abbrev pub window : (first len : ℕ) → List ℕ → List ℕ
window first len bytes = take len (drop first bytes)

-- the bytes of a message: a part of src or of dst
abbrev pub bytes_by : Way → List ℕ → List ℕ → List ℕ
bytes_by Gives src dst = src
bytes_by Shares src dst = dst
bytes_by Takes src dst = dst

-- the bytes that a message of a collective call moves: a part of src or of dst
abbrev pub bytes_of_piece : PieceCall → (src dst : List ℕ) → List ℕ
bytes_of_piece call src dst = window call.first call.len (bytes_by call.way src dst)

-- a message of the table as a call, by which way it goes, the other rank, its length and its bytes
abbrev pub data_by : Way → (peer len : ℕ) → List ℕ → DataCall
data_by Gives peer len bytes = Send peer (plain_head len) bytes
data_by Shares peer len bytes = Send peer (plain_head len) bytes
data_by Takes peer len bytes = Recv peer (plain_head len) bytes

-- a message of the table as a call with its bytes, which are a part of src or of dst
abbrev pub data_call_of : (src dst : List ℕ) → PieceCall → DataCall
data_call_of src dst call = data_by call.way call.peer call.len (bytes_of_piece call src dst)

-- the calls of a collective call at a rank, with their bytes
abbrev pub data_calls : More → (rank nue len : ℕ) → (src dst : List ℕ) → List DataCall
data_calls more rank nue len src dst = map (data_call_of src dst) (piece_calls more rank nue len)

-- the table of an op at its seat
abbrev pub table_of : Seat → MoreAt → List PieceCall
table_of seat op = piece_calls op.more seat.rank seat.setup.nue op.len

-- the calls that have ended, with their bytes
abbrev pub ended_calls : Seat → MoreAt → (src dst : List ℕ) → List DataCall
ended_calls seat op src dst = map (data_call_of src dst) (take op.ended (table_of seat op))

-- the own piece stands in dst
abbrev pub HasOwn : More → (rank len : ℕ) → (src dst : List ℕ) → Type 0
HasOwn more rank len src dst = has_own more rank ≡ true → window (rank * len) len dst ≡ window (rank * len) len src

-- the own piece was copied
abbrev pub is_copied : Stage → Bool
is_copied Own = false
is_copied stage = true

-- a message is received
abbrev pub is_taking : Way → Bool
is_taking Takes = true
is_taking way = false

-- the stage at which a message of the table begins, by which way it goes
abbrev pub begun_by : Way → PieceCall → Stage
begun_by Takes call = Receiving call (new_receive call.peer (plain_head call.len))
begun_by way call = Sending call (new_send call.peer (plain_head call.len) false)

-- the stage at which a message of the table begins: its send or its receive, of which nothing is done yet
abbrev pub begun_at : PieceCall → Stage
begun_at call = begun_by call.way call
