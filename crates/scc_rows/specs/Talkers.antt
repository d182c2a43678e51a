-- A rank that sends, posts and receives messages.
use Rattle.std.specs.Prelude.{◌≡◌, ℕ, true, List, Option, None, Some}
use Rattle.scc_proto.specs.Words.{are_peers}
use Rattle.scc_proto.specs.Ports.{Sight, record_in}
use Rattle.put_get.specs.Cores.{Private}
use Rattle.send_recv.specs.Ops.{RecvAt, SendAt, SlotAt}
use Rattle.send_recv.specs.Receiving.{RecvStands}
use Rattle.send_recv.specs.Sending.{SlotStands, SendStands}
use Rattle.send_recv.specs.Calling.{IsBetweenMessages}

-- the call of a rank: an unfinished send or post, an unfinished receive, or none
abbrev pub IsAtCall : Sight → Private → SlotAt → List ℕ → Option SendAt → Option RecvAt → Type 0
IsAtCall s core slot bytes (Some op) receive = SendStands s core op slot bytes
IsAtCall s core slot bytes None (Some op) = RecvStands s core op bytes × SlotStands s.seat (record_in s) slot
IsAtCall s core slot bytes None None = IsBetweenMessages s core slot

-- the calls of a rank with its peer agree with the events of the rank. Seven parameters: all that such a rank has: its sight, its core, its
-- slot, its peer, its bytes, and the send and the receive that are unfinished.
pub record IsTalking (s : Sight) (core : Private) (slot : SlotAt) (peer : ℕ) (bytes : List ℕ) (send : Option SendAt)
    (receive : Option RecvAt) : Type 0 where
  pub peers : are_peers s.seat.setup s.seat.rank peer ≡ true
  pub at : IsAtCall s core slot bytes send receive
