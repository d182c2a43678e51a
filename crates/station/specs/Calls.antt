-- The rank of a station as a sender, as a receiver and as a member of a barrier: at the start of a call, in it, and behind it.
use Rattle.std.specs.Prelude.{ℕ, true, false, List, length}
use Rattle.scc_base.specs.Heads.{plain_head}
use Rattle.scc_base.specs.declared.events.Event.{Event}
use Rattle.scc_proto.specs.Ports.{Did, Sight, record_in}
use Rattle.send_recv.specs.Ops.{RecvAt, SendAt, new_receive, new_send}
use Rattle.send_recv.specs.Turns.{KeepsAllButMessages}
use Rattle.send_recv.specs.Ranks.{BufferHolder, Receiver, Sender, SlotHolder, receiving, sending, with_bytes, holding_slot}
use Rattle.barrier.specs.Stages.{BarAt, Member, ParityHolder, meeting, new_barrier, with_parity}
use Rattle.station.specs.Stations.{StationAt}

-- a rank in a send or a post of these bytes, by what its port and its station show
abbrev pub in_send : Sight → StationAt → SendAt → List ℕ → Sender
in_send s a op bytes = sending s a.core op a.slot bytes

-- a rank at the start of a send of these bytes
abbrev pub at_send : Sight → StationAt → ℕ → List ℕ → Sender
at_send s a to bytes = in_send s a (new_send to (plain_head (length bytes)) false) bytes

-- a rank at the start of a post of these bytes
abbrev pub at_post : Sight → StationAt → ℕ → List ℕ → Sender
at_post s a to bytes = in_send s a (new_send to (plain_head (length bytes)) true) bytes

-- a rank behind a send, a post or a turn of the slot
abbrev pub after_send : Sight → StationAt → SlotHolder
after_send s a = holding_slot s a.core a.slot

-- a rank in a receive, with what its buffer holds
abbrev pub in_receive : Sight → StationAt → RecvAt → List ℕ → Receiver
in_receive s a op bytes = receiving s a.core op bytes

-- a rank at the start of a receive into a buffer that holds these bytes
abbrev pub at_receive : Sight → StationAt → ℕ → List ℕ → Receiver
at_receive s a from bytes = in_receive s a (new_receive from (plain_head (length bytes))) bytes

-- a rank behind a receive of these bytes
abbrev pub after_receive : Sight → StationAt → List ℕ → BufferHolder
after_receive s a bytes = with_bytes s a.core bytes

-- a rank in a barrier
abbrev pub in_barrier : Sight → StationAt → BarAt → Member
in_barrier s a op = meeting s a.core op a.parity

-- a rank at the start of a barrier
abbrev pub at_barrier : Sight → StationAt → ℕ → Member
at_barrier s a comm = in_barrier s a (new_barrier comm)

-- a rank behind a barrier
abbrev pub after_barrier : Sight → StationAt → ParityHolder
after_barrier s a = with_parity s a.core a.parity

-- between two sights a rank sent and received messages and did nothing else: the rest of its record is as it was
pub record OnlyMessages (s t : Sight) : Type 0 where
  pub events : List Event
  pub did : Did s events t
  pub rest : KeepsAllButMessages (record_in s) (record_in t)
