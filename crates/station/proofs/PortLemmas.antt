-- What stands at a port stands at every port of the same rank.
use Rattle.std.proofs.Common.{ℕ, Bool, List, Option, slice_get, sym, ap, ◌∙◌, subst}
use base.Stored.{Gv}
use Rattle.scc_base.specs.Calls.{DataCall}
use Rattle.scc_proto.specs.Ports.{Sight, record_in}
use Rattle.scc_proto.specs.Stages.{Record}
use Rattle.sync_flags.specs.Turns.{at_port}
use Rattle.sync_flags.proofs.TurnLemmas.{record_at_port}
use Rattle.send_recv.specs.Ops.{RecvAt, SendAt}
use Rattle.send_recv.proofs.OtherPort as message
use Rattle.barrier.specs.Flags.{IsParityOf}
use Rattle.barrier.specs.Stages.{BarAt}
use Rattle.barrier.proofs.OtherPort as bar
use Rattle.coll_more.specs.Ops.{MoreAt}
use Rattle.coll_more.proofs.EndLemmas.{stands_there}
use Rattle.groups.specs.declared.collectives.Step.{Step}
use Rattle.station.specs.Collectives.{IsInCollective}
use Rattle.station.specs.Groups.{GroupStart, IsInGroup, StandsInStep, in_group_call, in_step, part_in, steps_at}
use Rattle.station.specs.Stations.{HoldsNoRegister, IsInBarrier, IsInReceive, IsInSend, NoCallOpen, StationAt}
use Rattle.station.specs.Steps.{GroupPart, Held, bytes_sent_by}
use Rattle.station.specs.declared.steps.GroupOp.{GroupOp}
use Rattle.station.specs.declared.steps.Hand.{Hand}
use Rattle.station.specs.declared.steps.Hand.TheVariants.{Between, Sending, Receiving}

module _ (s : Sight) (m r : Gv) (h : ℕ) where
  parity_there : (values : List Bool) → IsParityOf (record_in s) values → IsParityOf (record_in (at_port s m r h)) values
  parity_there values is = subst (λ (rec : Record). IsParityOf rec values) (sym (record_at_port s m r h)) is

  registers_there : HoldsNoRegister (record_in s) → HoldsNoRegister (record_in (at_port s m r h))
  registers_there none = subst (λ (rec : Record). HoldsNoRegister rec) (sym (record_at_port s m r h)) none

  pub free_there : (a : StationAt) → NoCallOpen s a → NoCallOpen (at_port s m r h) a
  free_there a free = record {
    messages = message.free_there s m r h a.core a.slot free.messages;
    parity = parity_there a.parity free.parity;
    registers = registers_there free.registers;
  }

  pub send_there : (a : StationAt) (op : SendAt) (bytes : List ℕ) → IsInSend s a op bytes → IsInSend (at_port s m r h) a op bytes
  send_there a op bytes there = record {
    stands = message.send_there s m r h a.core op a.slot bytes there.stands;
    parity = parity_there a.parity there.parity;
    registers = registers_there there.registers;
  }

  pub receive_there : (a : StationAt) (op : RecvAt) (bytes : List ℕ) → IsInReceive s a op bytes → IsInReceive (at_port s m r h) a op bytes
  receive_there a op bytes there = record {
    stands = message.receive_there s m r h a.core op bytes there.stands;
    slot_stands = message.slot_there s m r h a.slot there.slot_stands;
    parity = parity_there a.parity there.parity;
    registers = registers_there there.registers;
  }

  pub barrier_there : (a : StationAt) (op : BarAt) → IsInBarrier s a op → IsInBarrier (at_port s m r h) a op
  barrier_there a op there = record {
    stands = bar.barrier_there s m r h a.core op a.parity there.stands;
    slot_stands = message.slot_there s m r h a.slot there.slot_stands;
    registers = registers_there there.registers;
  }

  step_there : (before : Held) (a : StationAt) (part : GroupPart) (held : Held) (next : Option Step) (hand : Hand) → StandsInStep before (in_step s a part held) next hand
      → StandsInStep before (in_step (at_port s m r h) a part held) next hand
  step_there before a part held next Between at = record { held_is = at.held_is; free = free_there a at.free }
  step_there before a part held next (Sending op) at = record {
    next_is = at.next_is;
    plain = at.plain;
    unended = at.unended;
    held_is = at.held_is;
    stands = send_there a op (bytes_sent_by part before) at.stands;
  }
  step_there before a part held next (Receiving op) at = record {
    next_is = at.next_is;
    long = at.long;
    unended = at.unended;
    bytes = at.bytes;
    held_is = at.held_is;
    afterwards = at.afterwards;
    stands = receive_there a op at.bytes at.stands;
  }

  pub group_there : (start : GroupStart) (a : StationAt) (op : GroupOp) (input : List ℕ) (held : Held) → IsInGroup start (in_group_call s a op input held)
      → IsInGroup start (in_group_call (at_port s m r h) a op input held)
  group_there start a op input held there = record {
    callable = there.callable;
    fits = there.fits;
    before = there.before;
    run = record {
      calls = there.run.calls;
      did = there.run.did;
      made = ap (λ (rec : Record). rec.calls) (record_at_port s m r h) ∙ there.run.made;
    };
    stands = step_there there.before a (part_in s.seat op input) held (slice_get (steps_at s.seat op) op.at) op.hand there.stands;
  }

  pub collective_there : (base : List DataCall) (a : StationAt) (op : MoreAt) (src dst : List ℕ) → IsInCollective base s a op src dst
      → IsInCollective base (at_port s m r h) a op src dst
  collective_there base a op src dst there = record {
    stands = stands_there s m r h base a.core op a.slot src dst there.stands;
    parity = parity_there a.parity there.parity;
    registers = registers_there there.registers;
  }
