-- A message stands where the events of a rank stand, whatever port shows them.
use Rattle.std.proofs.Common.{◌≡◌, ℕ, zero, suc, List, refl, sym, ◌∙◌, subst}
use base.Stored.{Gv}
use Rattle.scc_base.specs.declared.layouts.Layout.{Layout}
use Rattle.scc_base.specs.declared.layouts.Layout.TheVariants.{LineFlags, BitFlags}
use Rattle.scc_proto.specs.Stages.{Stage, Record}
use Rattle.scc_proto.specs.Records.{chunk_of}
use Rattle.scc_proto.specs.Ports.{Seat, Sight, record_in}
use Rattle.put_get.specs.Cores.{Private}
use Rattle.sync_flags.specs.Turns.{at_port}
use Rattle.sync_flags.proofs.TurnLemmas.{between_there, record_at_port}
use Rattle.send_recv.specs.declared.stages.RecvStage.{RecvStage}
use Rattle.send_recv.specs.declared.stages.RecvStage.TheVariants as receive
use Rattle.send_recv.specs.declared.stages.SendStage.{SendStage}
use Rattle.send_recv.specs.declared.stages.SendStage.TheVariants as sending
use Rattle.send_recv.specs.Ops.{RecvAt, SendAt, SlotAt}
use Rattle.send_recv.specs.Turns.{HoldsNone}
use Rattle.send_recv.specs.Receiving.{RecvStands, IsReceiving, IsAtRecvStage}
use Rattle.send_recv.specs.Sending.{SlotStands, SendStands, IsSending, IsAtSendStage, IsBeforeRaise, waiting, lines_in_hand}
use Rattle.send_recv.specs.Calling.{IsBetweenMessages}

abbrev seat_at : Seat → Gv → Gv → ℕ → Seat
seat_at seat m r h = record seat { mark = m; rest = r; hold = h }

module _ (seat : Seat) (m r : Gv) (h : ℕ) where
  slot_at : (rec : Record) (slot : SlotAt) → SlotStands seat rec slot → SlotStands (seat_at seat m r h) rec slot
  slot_at rec slot st = record { to = st.to; seen = st.seen; peers = st.peers }

  receive_stage : (rec : Record) (c : Private) (op : RecvAt) (bytes : List ℕ) (stage : RecvStage) → IsAtRecvStage seat rec c op bytes stage → IsAtRecvStage (seat_at seat m r h) rec c op bytes stage
  receive_stage rec c op bytes receive.Look at = at
  receive_stage rec c op bytes receive.Header at = at
  receive_stage rec c op bytes receive.Lower at = at
  receive_stage rec c op bytes (receive.Lines i) at = at
  receive_stage rec c op bytes receive.Raise at = at
  receive_stage rec c op bytes receive.Finished at = at

  receive_at : (rec : Record) (c : Private) (op : RecvAt) (bytes : List ℕ) → IsReceiving seat rec c op bytes → IsReceiving (seat_at seat m r h) rec c op bytes
  receive_at rec c op bytes st = record {
    peers = st.peers;
    head = st.head;
    long = st.long;
    empty = st.empty;
    hands = st.hands;
    in_hand = st.in_hand;
    at = receive_stage rec c op bytes op.stage st.at;
  }

  waiting_at : (op : SendAt) (bytes : List ℕ) (n : ℕ) → waiting seat op bytes n ≡ waiting (seat_at seat m r h) op bytes n
  waiting_at op bytes zero = refl
  waiting_at op bytes (suc n) = refl

  before_at : (layout : Layout) (stage : Stage) (c : Private) (op : SendAt) (bytes : List ℕ) → IsBeforeRaise layout seat stage c op bytes → IsBeforeRaise layout (seat_at seat m r h) stage c op bytes
  before_at LineFlags stage c op bytes at = (at.0 ∙ waiting_at op bytes (lines_in_hand (chunk_of seat.setup) op), at.1)
  before_at BitFlags stage c op bytes at = at

  send_stage : (rec : Record) (c : Private) (op : SendAt) (bytes : List ℕ) (stage : SendStage) → IsAtSendStage seat rec c op bytes stage → IsAtSendStage (seat_at seat m r h) rec c op bytes stage
  send_stage rec c op bytes sending.Header at = at
  send_stage rec c op bytes (sending.Lines i) at = (at.0, at.1, at.2 ∙ waiting_at op bytes i, at.3)
  send_stage rec c op bytes sending.Flush at = (at.0, at.1, at.2 ∙ waiting_at op bytes (lines_in_hand (chunk_of seat.setup) op), at.3)
  send_stage rec c op bytes sending.Raise at = (at.0, before_at seat.setup.layout rec.stage c op bytes at.1)
  send_stage rec c op bytes sending.Look at = at
  send_stage rec c op bytes sending.Lower at = at
  send_stage rec c op bytes sending.Finished at = at

  send_at : (rec : Record) (c : Private) (op : SendAt) (slot : SlotAt) (bytes : List ℕ) → IsSending seat rec c op slot bytes → IsSending (seat_at seat m r h) rec c op slot bytes
  send_at rec c op slot bytes st = record {
    peers = st.peers;
    head = st.head;
    post_head = st.post_head;
    long = st.long;
    hands = st.hands;
    slot_stands = slot_at rec slot st.slot_stands;
    in_hand = st.in_hand;
    at = send_stage rec c op bytes op.stage st.at;
  }

module _ (s : Sight) (m r : Gv) (h : ℕ) where
  pub slot_there : (slot : SlotAt) → SlotStands s.seat (record_in s) slot → SlotStands (at_port s m r h).seat (record_in (at_port s m r h)) slot
  slot_there slot st = subst (λ (x : Record). SlotStands (seat_at s.seat m r h) x slot) (sym (record_at_port s m r h)) (slot_at s.seat m r h (record_in s) slot st)

  pub receive_there : (c : Private) (op : RecvAt) (bytes : List ℕ) → RecvStands s c op bytes → RecvStands (at_port s m r h) c op bytes
  receive_there c op bytes st =
      subst (λ (x : Record). IsReceiving (seat_at s.seat m r h) x c op bytes) (sym (record_at_port s m r h)) (receive_at s.seat m r h (record_in s) c op bytes st)

  pub send_there : (c : Private) (op : SendAt) (slot : SlotAt) (bytes : List ℕ) → SendStands s c op slot bytes → SendStands (at_port s m r h) c op slot bytes
  send_there c op slot bytes st =
      subst (λ (x : Record). IsSending (seat_at s.seat m r h) x c op slot bytes) (sym (record_at_port s m r h)) (send_at s.seat m r h (record_in s) c op slot bytes st)

  pub free_there : (c : Private) (slot : SlotAt) → IsBetweenMessages s c slot → IsBetweenMessages (at_port s m r h) c slot
  free_there c slot st = record {
    between = between_there s m r h c st.between;
    hands = subst (λ (x : Record). HoldsNone s.seat.setup.layout x) (sym (record_at_port s m r h)) st.hands;
    slot_stands = slot_there slot st.slot_stands;
  }
