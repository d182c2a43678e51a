-- A UE fits every port of its rank: the same setup, rank and events.
use Rattle.std.proofs.Common.{◌≡◌, ℕ, Bool, List, None, sym, subst, take, sum_by}
use Rattle.std.specs.List.{count_by}
use base.Stored.{Gv}
use Rattle.scc_proto.specs.Ports.{Sight, record_in}
use Rattle.scc_proto.specs.Stages.{Record}
use Rattle.put_get.specs.Cores.{Private}
use Rattle.send_recv.specs.Ops.{SlotAt}
use Rattle.send_recv.proofs.OtherPort.{receive_there, send_there, slot_there}
use Rattle.sync_flags.specs.Turns.{at_port}
use Rattle.sync_flags.proofs.TurnLemmas.{between_there, record_at_port}
use Rattle.barrier.specs.Flags.{IsParityOf}
use Rattle.barrier.proofs.OtherPort.{barrier_there}
use Rattle.plain_meaning.specs.Collectives.{start_of_rank}
use Rattle.script_machine.specs.Local.{Local, local_next}
use Rattle.script_machine.specs.Moves.{bytes_out, length_asked}
use Rattle.script_machine.specs.Next.{Next}
use Rattle.rcce_ue.specs.Standing.{OpStands, Stood, Tied, bytes_sent}
use Rattle.rcce_ue.specs.Ues.{UeView, capped_count, is_send_call}
use Rattle.rcce_ue.specs.declared.calls.Open.{Open}
use Rattle.rcce_ue.specs.declared.calls.Open.TheVariants.{Nothing, Sending, Receiving, Meeting}

module _ (s : Sight) (m r : Gv) (h : ℕ) where
  there : (P : Record → Type 0) → P (record_in s) → P (record_in (at_port s m r h))
  there P is = subst P (sym (record_at_port s m r h)) is

  op_there : (c : Private) (slot : SlotAt) (parity : List Bool) (inbox : List ℕ) (op : Open) (n : Next Local) → OpStands s c slot parity inbox op n → OpStands (at_port s m r h) c slot parity inbox op n
  op_there c slot parity inbox Nothing n st = (between_there s m r h c st.0, st.1)
  op_there c slot parity inbox (Sending op) n st = (send_there s m r h c op slot (bytes_out n) st.0, st.1)
  op_there c slot parity inbox (Receiving op) n st = (receive_there s m r h c op (take (length_asked n) inbox) st.0, st.1)
  op_there c slot parity inbox (Meeting op) n st = (barrier_there s m r h c op parity st.0, st.1)

  pub tied_there : (ue : UeView) → Tied ue s → Tied ue (at_port s m r h)
  tied_there ue tied = record {
    begun = tied.begun;
    setup_is = tied.setup_is;
    rank_is = tied.rank_is;
    last = tied.last;
    stood = there (λ (rec : Record). Stood (start_of_rank ue.machine.script ue.machine.rank) rec ue.machine.local tied.last) tied.stood;
    stands = op_there ue.core ue.slot ue.parity ue.inbox ue.op (local_next ue.machine.local) tied.stands;
    hands = there (λ (rec : Record). (core : ℕ) → rec.held core ≡ None) tied.hands;
    slot_is = slot_there s m r h ue.slot tied.slot_is;
    parity_is = there (λ (rec : Record). IsParityOf rec ue.parity) tied.parity_is;
    room = tied.room;
    posted_is = tied.posted_is;
    target = tied.target;
    sent_is = there (λ (rec : Record). ue.sent ≡ capped_count (count_by is_send_call rec.calls)) tied.sent_is;
    bytes_are = there (λ (rec : Record). ue.sent_bytes ≡ capped_count (sum_by bytes_sent rec.calls)) tied.bytes_are;
  }
