-- A rank with what it keeps for itself, between two of its calls and in one that gave up.
use Rattle.std.specs.Prelude.{◌≡◌, ℕ, Bool, List, None}
use Rattle.mpb_alloc.specs.Heaps.{LineHeap}
use Rattle.scc_proto.specs.Stages.{Record}
use Rattle.scc_proto.specs.Ports.{Sight, record_in}
use Rattle.put_get.specs.Cores.{Private}
use Rattle.send_recv.specs.Calling.{IsBetweenMessages}
use Rattle.send_recv.specs.Ops.{RecvAt, SendAt, SlotAt}
use Rattle.send_recv.specs.Receiving.{RecvStands}
use Rattle.send_recv.specs.Sending.{SendStands, SlotStands}
use Rattle.barrier.specs.Flags.{IsParityOf}
use Rattle.barrier.specs.Stages.{BarAt, BarStands}

-- what is seen of a station: its core, the slot of its posted message, the values of its own gather flags, its heap, and how
-- many vain tries in a row end a call (this project's profile)
pub record StationAt : Type 0 where
  pub core : Private
  pub slot : SlotAt
  pub parity : List Bool
  pub heap : LineHeap
  pub polls : ℕ

-- the rank holds no test-and-set register (SCC External Architecture Specification)
abbrev pub HoldsNoRegister : Record → Type 0
HoldsNoRegister rec = (core : ℕ) → rec.held core ≡ None

-- the rank is between two calls, holds no register, and its slot and its gather flags are the record's: any call of its station
-- can begin (RCCE specification 2.0: a unit of execution is in one call at a time)
pub record NoCallOpen (s : Sight) (a : StationAt) : Type 0 where
  pub messages : IsBetweenMessages s a.core a.slot
  pub parity : IsParityOf (record_in s) a.parity
  pub registers : HoldsNoRegister (record_in s)

-- the rank stands in this send or post, which gave up; all else is as between two calls (this project's profile)
pub record IsInSend (s : Sight) (a : StationAt) (op : SendAt) (bytes : List ℕ) : Type 0 where
  pub stands : SendStands s a.core op a.slot bytes
  pub parity : IsParityOf (record_in s) a.parity
  pub registers : HoldsNoRegister (record_in s)

-- the rank stands in this receive, which gave up; all else is as between two calls (this project's profile)
pub record IsInReceive (s : Sight) (a : StationAt) (op : RecvAt) (bytes : List ℕ) : Type 0 where
  pub stands : RecvStands s a.core op bytes
  pub slot_stands : SlotStands s.seat (record_in s) a.slot
  pub parity : IsParityOf (record_in s) a.parity
  pub registers : HoldsNoRegister (record_in s)

-- the rank stands in this barrier, which gave up; all else is as between two calls (this project's profile)
pub record IsInBarrier (s : Sight) (a : StationAt) (op : BarAt) : Type 0 where
  pub stands : BarStands s a.core op a.parity
  pub slot_stands : SlotStands s.seat (record_in s) a.slot
  pub registers : HoldsNoRegister (record_in s)

-- a call left the heap and the number of tries as they were (this project's profile)
pub record KeepsHeap (old new : StationAt) : Type 0 where
  pub heap : new.heap ≡ old.heap
  pub polls : new.polls ≡ old.polls

-- a call left the slot, the heap and the number of tries as they were (this project's profile)
pub record KeepsSlot (old new : StationAt) : Type 0 where
  pub slot : new.slot ≡ old.slot
  pub heap : new.heap ≡ old.heap
  pub polls : new.polls ≡ old.polls

-- a call of the heap left all else as it was (this project's profile)
pub record KeepsAllButHeap (old new : StationAt) : Type 0 where
  pub core : new.core ≡ old.core
  pub slot : new.slot ≡ old.slot
  pub parity : new.parity ≡ old.parity
  pub polls : new.polls ≡ old.polls
