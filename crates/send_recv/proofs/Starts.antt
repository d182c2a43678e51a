-- How a message begins at a rank that is in no call, and what stands after it.
use Rattle.std.proofs.Common.{◌≡◌, ◌<◌, ◌≤◌, ℕ, ◌+◌, ◌-◌, ◌*◌, Bool, true, false, List, [], Option, Some, None, option_map, length, refl, sym, ◌∙◌, ap, subst, arith}
use Rattle.std.proofs.Math.Nat.{mul-le-mul_right}
use Rattle.scc_base.specs.Heads.{MessageHead, IsHead, IsPostHead}
use Rattle.scc_base.specs.Layouts.{chunk_size}
use Rattle.scc_base.specs.declared.events.Event.{Event}
use Rattle.scc_base.specs.declared.events.Turn.{Turn}
use Rattle.scc_base.specs.declared.events.Turn.TheVariants as turn
use Rattle.scc_base.specs.declared.layouts.Layout.{Layout}
use Rattle.scc_base.specs.declared.layouts.Layout.TheVariants.{LineFlags, BitFlags}
use Rattle.scc_proto.specs.Stages.{InFlight, Idle, Record, blank}
use Rattle.scc_proto.specs.Words.{are_peers}
use Rattle.scc_proto.specs.Ports.{Seat, Sight, Did, record_in}
use Rattle.scc_proto.proofs.PortLaws.{seat_kept}
use Rattle.put_get.specs.Cores.{Private}
use Rattle.sync_flags.specs.Tries.{Aim}
use Rattle.sync_flags.proofs.TurnLemmas.{between_at_start, record_at_start}
use Rattle.send_recv.specs.declared.stages.RecvStage.{RecvStage}
use Rattle.send_recv.specs.declared.stages.RecvStage.TheVariants as receive
use Rattle.send_recv.specs.declared.stages.SendStage.{SendStage}
use Rattle.send_recv.specs.declared.stages.SendStage.TheVariants as stages
use Rattle.send_recv.specs.declared.answers.RecvTurn.TheVariants as recv_turn
use Rattle.send_recv.specs.Chunks.{chunk_count, lines_of_bytes, lines_from}
use Rattle.send_recv.specs.Ops.{RecvAt, SendAt, SlotAt, new_receive, new_send, empty_slot, slot_left, slot_left_by}
use Rattle.send_recv.specs.Receiving.{RecvStands, RecvTurned, IsReceiving, IsAtRecvStage, recv_left}
use Rattle.send_recv.specs.Sending.{SlotStands, SlotTurned, SendStands, SendTurned, IsSending, IsAtSendStage, was_answered, send_left, of_chunk}
use Rattle.send_recv.specs.Calling.{IsBetweenMessages, Received, RecvDiffers, FoundUnset, Sent}
use Rattle.send_recv.specs.Turns.{HoldsNone, IsSamePost, KeepsAllButMessages}
use Rattle.send_recv.specs.Ranks.{receiving, sending, holding_slot, with_bytes}
use Rattle.send_recv.proofs.Receiving.LookTurn.{holds_kept}

some_chunk : (layout : Layout) (len : ℕ) → 0 < chunk_count (chunk_size layout) len
some_chunk LineFlags len = omega arith
some_chunk BitFlags len = omega arith

pub receive_starts : {s : Sight} {c : Private} {slot : SlotAt} → IsBetweenMessages s c slot → (from : ℕ) (head : MessageHead) (bytes : List ℕ) → are_peers s.seat.setup s.seat.rank from ≡ true
    → IsHead head → length bytes ≡ head.len → RecvStands s c (new_receive from head) bytes
receive_starts {s} free from head bytes peers valid long =
    record { peers = peers; head = valid; long = long; empty = free.between.empty; hands = free.hands; in_hand = some_chunk s.seat.setup.layout head.len; at = free.between.stage }

pub send_starts : {s : Sight} {c : Private} {slot : SlotAt} → IsBetweenMessages s c slot → (to : ℕ) (head : MessageHead) (posted : Bool) (bytes : List ℕ) → are_peers s.seat.setup s.seat.rank to ≡ true
    → IsHead head → (posted ≡ true → IsPostHead head) → length bytes ≡ head.len → SendStands s c (new_send to head posted) slot bytes
send_starts {s} free to head posted bytes peers valid short long = record {
  peers = peers;
  head = valid;
  post_head = short;
  long = long;
  hands = free.hands;
  slot_stands = free.slot_stands;
  in_hand = some_chunk s.seat.setup.layout head.len;
  at = (refl, free.between.stage, free.between.empty);
}

-- ---- what stands afterwards

same_target : (old new : Option InFlight) → IsSamePost old new → option_map (λ (post : InFlight). post.to) old ≡ option_map (λ (post : InFlight). post.to) new
same_target None new same = ap (λ (o : Option InFlight). option_map (λ (post : InFlight). post.to) o) (sym same)
same_target (Some post) new same = ap (λ (o : Option InFlight). option_map (λ (post : InFlight). post.to) o) (sym same.1)

still_answered : (old new : Option InFlight) → IsSamePost old new → was_answered old ≡ true → was_answered new ≡ true
still_answered None new same h = absurd (cc)
still_answered (Some post) new same h = ap was_answered same.1 ∙ same.2 h

pub slot_stays : (seat : Seat) (rec new : Record) (slot : SlotAt) → IsSamePost rec.post new.post → SlotStands seat rec slot → SlotStands seat new slot
slot_stays seat rec new slot same st = record {
  to = st.to ∙ same_target rec.post new.post same;
  seen = λ h. still_answered rec.post new.post same (st.seen h);
  peers = st.peers;
}

-- the slot stands after events that changed its message at most by seeing it answered
pub slot_after : {s t : Sight} {slot : SlotAt} (events : List Event) → Did s events t → IsSamePost (record_in s).post (record_in t).post → SlotStands s.seat (record_in s) slot → SlotStands t.seat (record_in t) slot
slot_after {s} {t} {slot} events did post st =
    subst (λ (x : Seat). SlotStands x (record_in t) slot) (sym (seat_kept s events t did)) (slot_stays s.seat (record_in s) (record_in t) slot post st)

hands_after : {s t : Sight} (events : List Event) → Did s events t → KeepsAllButMessages (record_in s) (record_in t) → HoldsNone s.seat.setup.layout (record_in s) → HoldsNone t.seat.setup.layout (record_in t)
hands_after {s} {t} events did rest hands =
    subst (λ (x : Seat). HoldsNone x.setup.layout (record_in t)) (sym (seat_kept s events t did)) (holds_kept s.seat.setup.layout (record_in s) (record_in t) rest.hold hands)

pub free_after_receive : {s t : Sight} {c d : Private} {slot : SlotAt} {op : RecvAt} {polls : ℕ} {bytes after : List ℕ} → HoldsNone s.seat.setup.layout (record_in s) → SlotStands s.seat (record_in s) slot
    → Received (receiving s c op bytes) polls (with_bytes t d after) → IsBetweenMessages t d slot
free_after_receive hands st r =
    record { between = record { stage = r.stage; empty = r.empty }; hands = hands_after r.events r.did r.rest hands; slot_stands = slot_after r.events r.did r.post st }

pub free_after_other_head : {s t : Sight} {c d : Private} {slot : SlotAt} {op : RecvAt} {polls : ℕ} {bytes after : List ℕ} {sent asked : MessageHead} → HoldsNone s.seat.setup.layout (record_in s)
    → SlotStands s.seat (record_in s) slot → RecvDiffers (receiving s c op bytes) polls (with_bytes t d after) sent asked → IsBetweenMessages t d slot
free_after_other_head hands st r =
    record { between = record { stage = r.untaken; empty = r.empty }; hands = hands_after r.events r.did r.rest hands; slot_stands = slot_after r.events r.did r.post st }

pub free_after_test : {s t : Sight} {c d : Private} {slot : SlotAt} {aim : Aim} {op : RecvAt} {bytes after : List ℕ} → IsBetweenMessages s c slot → FoundUnset aim (receiving s c op bytes) (with_bytes t d after) → IsBetweenMessages t d slot
free_after_test free r = record {
  between = record { stage = r.at_rest.stage ∙ free.between.stage; empty = r.empty };
  hands = hands_after r.events r.did r.at_rest.rest free.hands;
  slot_stands = slot_after r.events r.did r.at_rest.post free.slot_stands;
}

pub free_after_send : {s t : Sight} {c d : Private} {op : SendAt} {slot after : SlotAt} {bytes : List ℕ} → SendStands s c op slot bytes → Sent (sending s c op slot bytes) (holding_slot t d after) → IsBetweenMessages t d after
free_after_send {s} {t} st r = record {
  between = record { stage = r.stage; empty = r.empty };
  hands = hands_after r.events r.did r.rest st.hands;
  slot_stands = r.slot_stands;
}

-- ---- before the first event, and after a turn

holds_blank : (layout : Layout) (rec : Record) → rec ≡ blank → HoldsNone layout rec
holds_blank LineFlags rec new = tt
holds_blank BitFlags rec new = λ core. ap (λ (x : Record). x.held core) new

-- before its first event a rank is in no call
pub free_at_start : (s : Sight) (c : Private) → s.events ≡ [] → c.out ≡ None → IsBetweenMessages s c empty_slot
free_at_start s c fresh empty =
    let none = record_at_start s fresh in
    record {
      between = between_at_start s c fresh empty;
      hands = holds_blank s.seat.setup.layout (record_in s) none;
      slot_stands = record { to = sym (ap (λ (x : Record). option_map (λ (post : InFlight). post.to) x.post) none); seen = λ h. absurd (cc); peers = tt };
    }

sent_at : (seat : Seat) (rec : Record) (c : Private) (op : SendAt) (slot : SlotAt) (bytes : List ℕ) → op.stage ≡ stages.Finished → IsSending seat rec c op slot bytes → (rec.stage ≡ Idle) × (c.out ≡ None)
sent_at seat rec c op slot bytes is st = subst (λ (x : SendStage). IsAtSendStage seat rec c op bytes x) is st.at

received_at : (seat : Seat) (rec : Record) (c : Private) (op : RecvAt) (bytes : List ℕ) → op.stage ≡ receive.Finished → IsReceiving seat rec c op bytes → rec.stage ≡ Idle
received_at seat rec c op bytes is st = subst (λ (x : RecvStage). IsAtRecvStage seat rec c op bytes x) is st.at

untaken_at : (seat : Seat) (rec : Record) (c : Private) (op : RecvAt) (bytes : List ℕ) → op.stage ≡ receive.Header → IsReceiving seat rec c op bytes → rec.stage ≡ Idle
untaken_at seat rec c op bytes is st = (subst (λ (x : RecvStage). IsAtRecvStage seat rec c op bytes x) is st.at).1

pub free_after_sent : {s t : Sight} {c d : Private} {op now : SendAt} {slot after : SlotAt} {bytes : List ℕ} → SendTurned (sending s c op slot bytes) (sending t d now after bytes) turn.Done
    → SendStands t d now after bytes → IsBetweenMessages t d after
free_after_sent {t = t} {d = d} {now = now} {after = after} {bytes = bytes} turned st =
    let end = sent_at t.seat (record_in t) d now after bytes turned.means.0 st in
    record { between = record { stage = end.0; empty = end.1 }; hands = st.hands; slot_stands = st.slot_stands }

pub free_after_received : {s t : Sight} {c d : Private} {op now : RecvAt} {slot : SlotAt} {bytes after : List ℕ} → SlotStands s.seat (record_in s) slot
    → RecvTurned (receiving s c op bytes) (receiving t d now after) recv_turn.Done → RecvStands t d now after → IsBetweenMessages t d slot
free_after_received {t = t} {d = d} {now = now} {after = after} slot turned st = record {
  between = record { stage = received_at t.seat (record_in t) d now after turned.means.0 st; empty = st.empty };
  hands = st.hands;
  slot_stands = slot_after turned.events turned.did turned.post slot;
}

pub free_after_mismatch : {s t : Sight} {c d : Private} {op now : RecvAt} {slot : SlotAt} {bytes after : List ℕ} {sent : MessageHead} → SlotStands s.seat (record_in s) slot
    → RecvTurned (receiving s c op bytes) (receiving t d now after) (recv_turn.Mismatch sent) → RecvStands t d now after → IsBetweenMessages t d slot
free_after_mismatch {t = t} {d = d} {now = now} {after = after} slot turned st = record {
  between = record {
    stage = untaken_at t.seat (record_in t) d now after (ap (λ (o : RecvAt). o.stage) turned.means.0 ∙ turned.means.2) st;
    empty = st.empty;
  };
  hands = st.hands;
  slot_stands = slot_after turned.events turned.did turned.post slot;
}

pub free_after_slot : {s t : Sight} {c d : Private} {slot now : SlotAt} {answer : Turn} → IsBetweenMessages s c slot → SlotTurned (holding_slot s c slot) (holding_slot t d now) answer
    → SlotStands t.seat (record_in t) now → IsBetweenMessages t d now
free_after_slot free turned st = record {
  between = record { stage = turned.stage ∙ free.between.stage; empty = turned.buffer };
  hands = hands_after turned.events turned.did turned.rest free.hands;
  slot_stands = st;
}

-- ---- how many turns are left of a new one

slot_most : (to : Option ℕ) (seen : Bool) → slot_left_by to seen ≤ 2
slot_most None seen = omega arith
slot_most (Some to) true = omega arith
slot_most (Some to) false = omega arith

pub slot_left_most : (slot : SlotAt) → slot_left slot ≤ 2
slot_left_most slot = slot_most slot.to slot.seen

each_most : (layout : Layout) (posted : Bool) → of_chunk layout posted ≤ 4
each_most LineFlags true = omega arith
each_most LineFlags false = omega arith
each_most BitFlags true = omega arith
each_most BitFlags false = omega arith

lines_all : (size len : ℕ) → lines_from size len 0 ≡ lines_of_bytes len
lines_all size len = let none : len - size * 0 ≡ len = omega arith in ap (λ (n : ℕ). lines_of_bytes n) none

within : (lines chunks : ℕ) → 1 + lines + 3 * (chunks - 0) ≤ 4 + 5 * chunks + lines
within lines chunks = omega arith

product_most : (each chunks : ℕ) → each ≤ 4 → each * chunks ≤ 4 * chunks
product_most each chunks le = mul-le-mul_right chunks le

few_slot_turns : (slot lines product chunks : ℕ) → slot ≤ 2 → product ≤ 4 * (chunks - 0) → slot + 1 + lines + product ≤ 4 + 5 * chunks + lines
few_slot_turns slot lines product chunks few le = omega (arith, few, le)

pub new_receive_left : (size from : ℕ) (head : MessageHead) → recv_left size (new_receive from head) ≤ 4 + 5 * chunk_count size head.len + lines_of_bytes head.len
new_receive_left size from head =
    subst (λ (l : ℕ). 1 + l + 3 * (chunk_count size head.len - 0) ≤ 4 + 5 * chunk_count size head.len + lines_of_bytes head.len) (sym (lines_all size head.len)) (within (lines_of_bytes head.len) (chunk_count size head.len))

pub new_send_left : (layout : Layout) (size to : ℕ) (head : MessageHead) (posted : Bool) (slot : SlotAt)
    → send_left layout size (new_send to head posted) slot ≤ 4 + 5 * chunk_count size head.len + lines_of_bytes head.len
new_send_left layout size to head posted slot =
    subst (λ (l : ℕ). slot_left slot + 1 + l + of_chunk layout posted * (chunk_count size head.len - 0) ≤ 4 + 5 * chunk_count size head.len + lines_of_bytes head.len) (sym (lines_all size head.len))
    (few_slot_turns (slot_left slot) (lines_of_bytes head.len) (of_chunk layout posted * (chunk_count size head.len - 0)) (chunk_count size head.len) (slot_left_most slot)
    (product_most (of_chunk layout posted) (chunk_count size head.len - 0) (each_most layout posted)))
