-- Lists of calls of few ranks, to try the definition of legal lists on.
use Rattle.std.specs.Prelude.{ℕ, zero, suc, List, [], ◌∷◌, Option, None}
use Rattle.scc_base.specs.Heads.{plain_head}
use Rattle.scc_base.specs.Calls.{DataCall}
use Rattle.scc_proto.specs.Legality.{Outgoing}

-- all ranks are one group in every communicator
abbrev pub one_group : ℕ → ℕ → ℕ
one_group comm r = 0

-- the calls of ranks 0, 1 and 2; no other rank has any
abbrev pub lists_of : List DataCall → List DataCall → List DataCall → ℕ → List DataCall
lists_of first second third zero = first
lists_of first second third (suc zero) = second
lists_of first second third (suc (suc zero)) = third
lists_of first second third (suc (suc (suc k))) = []

-- rank 0 has this in its slot, and no other rank has anything in its own
abbrev pub slot_of_first : Option Outgoing → ℕ → Option Outgoing
slot_of_first slot zero = slot
slot_of_first slot (suc k) = None

-- four bytes for a rank
abbrev pub four_bytes : ℕ → Outgoing
four_bytes to = record { to = to; head = plain_head 4; bytes = 1 ∷ 2 ∷ 3 ∷ 4 ∷ [] }

-- the call that sends a message
abbrev pub send_of_message : Outgoing → DataCall
send_of_message m = DataCall.Send m.to m.head m.bytes

-- the call that receives a message from this rank
abbrev pub receive_of_message : ℕ → Outgoing → DataCall
receive_of_message from m = DataCall.Recv from m.head m.bytes

-- the call that posts a message
abbrev pub posting : Outgoing → DataCall
posting m = DataCall.Post m.to m.head m.bytes
