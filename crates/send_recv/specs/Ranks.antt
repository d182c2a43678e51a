-- A rank as a turn or a call of a message finds it and leaves it.
use Rattle.std.specs.Prelude.{ℕ, List}
use Rattle.scc_proto.specs.Ports.{Sight}
use Rattle.put_get.specs.Cores.{Private}
use Rattle.send_recv.specs.Ops.{RecvAt, SendAt, SlotAt}

-- what is seen of a rank in a receive
pub record Receiver : Type 0 where
  pub sight : Sight
  pub core : Private
  pub op : RecvAt
  pub bytes : List ℕ

-- a rank in a receive, by what its port and its core show, where the receive stands, and the caller's bytes
abbrev pub receiving : Sight → Private → RecvAt → List ℕ → Receiver
receiving sight core op bytes = record { sight = sight; core = core; op = op; bytes = bytes }

-- what is seen of a rank in a send or a post
pub record Sender : Type 0 where
  pub sight : Sight
  pub core : Private
  pub op : SendAt
  pub slot : SlotAt
  pub bytes : List ℕ

-- a rank in a send or a post, with its slot and the caller's bytes
abbrev pub sending : Sight → Private → SendAt → SlotAt → List ℕ → Sender
sending sight core op slot bytes = record { sight = sight; core = core; op = op; slot = slot; bytes = bytes }

-- what is seen of a rank behind a receive
pub record BufferHolder : Type 0 where
  pub sight : Sight
  pub core : Private
  pub bytes : List ℕ

-- a rank with the bytes that a receive was handed
abbrev pub with_bytes : Sight → Private → List ℕ → BufferHolder
with_bytes sight core bytes = record { sight = sight; core = core; bytes = bytes }

-- what is seen of a rank behind a send, and in a turn of its slot
pub record SlotHolder : Type 0 where
  pub sight : Sight
  pub core : Private
  pub slot : SlotAt

-- a rank with the slot of its posted message
abbrev pub holding_slot : Sight → Private → SlotAt → SlotHolder
holding_slot sight core slot = record { sight = sight; core = core; slot = slot }
