-- The one order in which all ranks make the messages of a collective call (this project's profile).
use Rattle.std.specs.Prelude.{◌≡◌, ℕ, ◌+◌, ◌*◌, not, nat_lt, if◌then◌else◌}
use Rattle.coll_more.specs.Ops.{is_taking}
use Rattle.coll_more.specs.declared.kinds.More.{More}
use Rattle.coll_more.specs.declared.kinds.More.TheVariants.{Allgather}
use Rattle.coll_more.specs.declared.kinds.PieceCall.{PieceCall}
use Rattle.coll_more.specs.declared.kinds.Way.{Way}
use Rattle.coll_more.specs.declared.kinds.Way.TheVariants.{Takes}

-- the root of an allgather sends behind all that it receives
abbrev pub delay : More → ℕ → ℕ
delay Allgather nue = 2 * nue
delay more nue = 0

-- The number of the message from one rank to another: pairs of ranks go by the sum of the two, and of the two messages of a
-- pair that of the lower rank goes first.
abbrev pub message_number : More → (nue from to : ℕ) → ℕ
message_number more nue from to = 2 * (from + to) + (if nat_lt from to then delay more nue else 1)

-- the number of a message with a peer, by which of the two ranks sends it
abbrev pub number_by : More → (nue rank : ℕ) → Way → (peer : ℕ) → ℕ
number_by more nue rank Takes peer = message_number more nue peer rank
number_by more nue rank way peer = message_number more nue rank peer

-- the number of a message of a rank's table
abbrev pub number_at : More → (nue rank : ℕ) → PieceCall → ℕ
number_at more nue rank call = number_by more nue rank call.way call.peer

-- a message of a rank's table, as it stands in the table of its other rank
pub record IsOtherSide (rank : ℕ) (one other : PieceCall) : Type 0 where
  pub peer : other.peer ≡ rank
  pub way : is_taking other.way ≡ not (is_taking one.way)
  pub len : other.len ≡ one.len
