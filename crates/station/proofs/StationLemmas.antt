-- A rank with a new station is between two calls, and stays so where its record changes in its heap at most.
use Rattle.std.proofs.Common.{◌≡◌, ℕ, ◌%◌, Bool, false, List, [], None, sym, ap, ◌∙◌, subst}
use Rattle.scc_base.specs.declared.layouts.Layout.{Layout}
use Rattle.scc_base.specs.declared.layouts.Layout.TheVariants.{LineFlags, BitFlags}
use Rattle.scc_proto.specs.Stages.{Record}
use Rattle.scc_proto.specs.Ports.{Seat, Sight, record_in}
use Rattle.put_get.specs.Cores.{Private}
use Rattle.sync_flags.proofs.TurnLemmas.{record_at_start}
use Rattle.send_recv.specs.Ops.{SlotAt, empty_slot}
use Rattle.send_recv.specs.Calling.{IsBetweenMessages}
use Rattle.send_recv.specs.Sending.{SlotStands}
use Rattle.send_recv.specs.Turns.{HoldsNone}
use Rattle.send_recv.proofs.Sending.SendFacts.{slot_kept}
use Rattle.send_recv.proofs.Starts as message
use Rattle.barrier.specs.Flags.{IsParityOf, value_at}
use Rattle.barrier.proofs.OtherPort as bar
use Rattle.station.specs.Stations.{HoldsNoRegister, NoCallOpen, StationAt}
use Rattle.station.proofs.HeapFacts.{HeapAlone}

-- before its first event a rank with a new core, a new slot and a new parity is between two calls
pub free_at_new : (a : StationAt) → a.core.out ≡ None → a.slot ≡ empty_slot → ((comm : ℕ) → value_at a.parity comm ≡ false)
    → (s : Sight) → s.events ≡ [] → NoCallOpen s a
free_at_new a out empty unset s none = record {
  messages = subst (λ (x : SlotAt). IsBetweenMessages s a.core x) (sym empty) (message.free_at_start s a.core none out);
  parity = (bar.free_at_start s a.core a.parity none out unset).parity;
  registers = λ core. ap (λ (x : Record). x.held core) (record_at_start s none);
}

holds_none : (layout : Layout) (rec : Record) → HoldsNoRegister rec → HoldsNone layout rec
holds_none LineFlags rec none = tt
holds_none BitFlags rec none = none

pub parity_kept : (rec new : Record) (values : List Bool) → new.flips ≡ rec.flips → IsParityOf rec values → IsParityOf new values
parity_kept rec new values same is = λ comm low. is comm low ∙ ap (λ (flips : ℕ → ℕ). flips comm % 2) (sym same)

-- a call over the heap leaves the rank between two calls
pub free_after_heap : {s t : Sight} {a : StationAt} (d : Private) → NoCallOpen s a → t.seat ≡ s.seat → HeapAlone (record_in s) (record_in t) → d.out ≡ None
    → NoCallOpen t (record a { core = d })
free_after_heap {s} {t} {a} d free seat alone empty =
    let none : HoldsNoRegister (record_in t) = λ core. alone.held core ∙ free.registers core in
    record {
      messages = record {
        between = record { stage = alone.stage ∙ free.messages.between.stage; empty = empty };
        hands = holds_none t.seat.setup.layout (record_in t) none;
        slot_stands = subst (λ (x : Seat). SlotStands x (record_in t) a.slot) (sym seat) (slot_kept s.seat (record_in s) (record_in t) a.slot alone.post free.messages.slot_stands);
      };
      parity = parity_kept (record_in s) (record_in t) a.parity alone.flips free.parity;
      registers = none;
    }
