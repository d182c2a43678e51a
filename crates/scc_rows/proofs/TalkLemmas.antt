-- The state of a message agrees with the events of its rank, whatever port shows them.
use Rattle.std.proofs.Common.{◌≡◌, ℕ, true, List, [], ◌++◌, Option, None, Some, length, take, refl, sym, ◌∙◌, ap, subst}
use Rattle.std.proofs.Math.Seq.{take-append_seam}
use base.Stored.{Gv, gnil}
use Rattle.scc_base.specs.Heads.{MessageHead}
use Rattle.scc_base.specs.Setups.{SetupView}
use Rattle.scc_base.specs.declared.events.Event.{Event}
use Rattle.scc_base.specs.declared.events.Turn.{Turn}
use Rattle.scc_proto.specs.Words.{are_peers}
use Rattle.scc_proto.specs.Ports.{Seat, Sight, Did, record_in}
use Rattle.scc_proto.proofs.PortLaws.{seat_kept}
use Rattle.put_get.specs.Cores.{Private}
use Rattle.sync_flags.specs.Turns.{at_port}
use Rattle.send_recv.specs.declared.answers.RecvTurn.{RecvTurn}
use Rattle.send_recv.specs.declared.answers.RecvTurn.TheVariants as recv_turn
use Rattle.send_recv.specs.Ops.{RecvAt, SendAt, SlotAt, empty_slot}
use Rattle.send_recv.specs.Receiving.{RecvStands, RecvTurned}
use Rattle.send_recv.specs.Sending.{SlotStands, SlotTurned, SendStands}
use Rattle.send_recv.specs.Calling.{IsBetweenMessages}
use Rattle.send_recv.specs.Ranks.{receiving, holding_slot}
use Rattle.send_recv.proofs.Starts.{free_after_mismatch, free_after_received, free_after_slot, free_at_start, slot_after}
use Rattle.send_recv.proofs.OtherPort.{free_there, receive_there, send_there, slot_there}
use Rattle.chip_teams.specs.Teams.{sight_alone}
use Rattle.scc_rows.specs.Talkers.{IsAtCall, IsTalking}

-- a state that agrees with a port agrees with every port of the same rank
module _ (s : Sight) (m r : Gv) (h : ℕ) where
  call_at : (c : Private) (slot : SlotAt) (bytes : List ℕ) (send : Option SendAt) (get : Option RecvAt) → IsAtCall s c slot bytes send get → IsAtCall (at_port s m r h) c slot bytes send get
  call_at c slot bytes (Some op) get st = send_there s m r h c op slot bytes st
  call_at c slot bytes None (Some op) st = (receive_there s m r h c op bytes st.0, slot_there s m r h slot st.1)
  call_at c slot bytes None None st = free_there s m r h c slot st

  talk_at : (c : Private) (slot : SlotAt) (peer : ℕ) (bytes : List ℕ) (send : Option SendAt) (get : Option RecvAt) → IsTalking s c slot peer bytes send get
      → IsTalking (at_port s m r h) c slot peer bytes send get
  talk_at c slot peer bytes send get st = record { peers = st.peers; at = call_at c slot bytes send get st.at }

-- a state that agrees with a rank's events agrees with every port that shows them, and conversely
pub talk_shown : {s : Sight} {c : Private} {slot : SlotAt} {peer : ℕ} {bytes : List ℕ} {send : Option SendAt} {get : Option RecvAt}
    → IsTalking (sight_alone s.seat.setup s.seat.rank s.events) c slot peer bytes send get → IsTalking s c slot peer bytes send get
talk_shown {s} {c} {slot} {peer} {bytes} {send} {get} st = talk_at (sight_alone s.seat.setup s.seat.rank s.events) s.seat.mark s.seat.rest s.seat.hold c slot peer bytes send get st

pub talk_alone : {s : Sight} {c : Private} {slot : SlotAt} {peer : ℕ} {bytes : List ℕ} {send : Option SendAt} {get : Option RecvAt}
    → IsTalking s c slot peer bytes send get → IsTalking (sight_alone s.seat.setup s.seat.rank s.events) c slot peer bytes send get
talk_alone {s} {c} {slot} {peer} {bytes} {send} {get} st = talk_at s gnil gnil 0 c slot peer bytes send get st

-- the call that is unfinished, at a port that shows the events
pub is_sending : {s : Sight} {c : Private} {slot : SlotAt} {peer : ℕ} {bytes : List ℕ} {send : Option SendAt} {get : Option RecvAt} {op : SendAt}
    → IsTalking (sight_alone s.seat.setup s.seat.rank s.events) c slot peer bytes send get → send ≡ Some op → SendStands s c op slot bytes
is_sending {s} {c} {slot} {peer} {bytes} {send} {get} st is = subst (λ (x : Option SendAt). IsAtCall s c slot bytes x get) is (talk_shown st).at

pub is_receiving : {s : Sight} {c : Private} {slot : SlotAt} {peer : ℕ} {bytes : List ℕ} {send : Option SendAt} {get : Option RecvAt} {op : RecvAt}
    → IsTalking (sight_alone s.seat.setup s.seat.rank s.events) c slot peer bytes send get → send ≡ None → get ≡ Some op → RecvStands s c op bytes × SlotStands s.seat (record_in s) slot
is_receiving {s} {c} {slot} {peer} {bytes} {send} {get} st none is =
    subst (λ (y : Option RecvAt). IsAtCall s c slot bytes None y) is (subst (λ (x : Option SendAt). IsAtCall s c slot bytes x get) none (talk_shown st).at)

pub is_free : {s : Sight} {c : Private} {slot : SlotAt} {peer : ℕ} {bytes : List ℕ} {send : Option SendAt} {get : Option RecvAt}
    → IsTalking (sight_alone s.seat.setup s.seat.rank s.events) c slot peer bytes send get → send ≡ None → get ≡ None → IsTalking s c slot peer bytes None None
is_free {s} {c} {slot} {peer} {bytes} {send} {get} st none free = record {
  peers = st.peers;
  at = subst (λ (y : Option RecvAt). IsAtCall s c slot bytes None y) free (subst (λ (x : Option SendAt). IsAtCall s c slot bytes x get) none (talk_shown st).at);
}

-- ---- how a rank starts, and how it begins a call

-- before its first event a rank is in no call
pub starts_free : (s : Sight) (c : Private) (slot : SlotAt) → s.events ≡ [] → c.out ≡ None → slot ≡ empty_slot → IsBetweenMessages s c slot
starts_free s c slot fresh empty new = subst (λ (x : SlotAt). IsBetweenMessages s c x) (sym new) (free_at_start s c fresh empty)

pub talk_starts : (s : SetupView) (r : ℕ) (c : Private) (slot : SlotAt) (peer : ℕ) (bytes : List ℕ) → are_peers s r peer ≡ true → c.out ≡ None → slot ≡ empty_slot
    → IsTalking (sight_alone s r []) c slot peer bytes None None
talk_starts s r c slot peer bytes peers empty new = record { peers = peers; at = starts_free (sight_alone s r []) c slot refl empty new }

-- ---- a turn

pub peers_kept : {s t : Sight} (peer : ℕ) (es : List Event) → Did s es t → are_peers s.seat.setup s.seat.rank peer ≡ true → are_peers t.seat.setup t.seat.rank peer ≡ true
peers_kept {s} {t} peer es did peers = subst (λ (x : Seat). are_peers x.setup x.rank peer ≡ true) (sym (seat_kept s es t did)) peers

-- bytes that were written through a slice of a list
pub written_back : (n : ℕ) (xs ys : List ℕ) → length xs ≡ n → take n (xs ++ ys) ≡ xs
written_back n xs ys long = ap (λ (k : ℕ). take k (xs ++ ys)) (sym long) ∙ take-append_seam xs ys

-- a call that goes on
pub receive_goes_on : {s t : Sight} {c d : Private} {op now : RecvAt} {slot : SlotAt} {bytes after : List ℕ} {peer : ℕ} {answer : RecvTurn}
    → are_peers s.seat.setup s.seat.rank peer ≡ true → SlotStands s.seat (record_in s) slot → RecvTurned (receiving s c op bytes) (receiving t d now after) answer → RecvStands t d now after
    → IsTalking t d slot peer after None (Some now)
receive_goes_on peers slot turned st = record { peers = peers_kept _ turned.events turned.did peers; at = (st, slot_after turned.events turned.did turned.post slot) }

-- a call that ends
pub receive_is_over : {s t : Sight} {c d : Private} {op now : RecvAt} {slot : SlotAt} {bytes after : List ℕ} {peer : ℕ}
    → are_peers s.seat.setup s.seat.rank peer ≡ true → SlotStands s.seat (record_in s) slot → RecvTurned (receiving s c op bytes) (receiving t d now after) recv_turn.Done → RecvStands t d now after
    → IsTalking t d slot peer after None None
receive_is_over peers slot turned st = record { peers = peers_kept _ turned.events turned.did peers; at = free_after_received slot turned st }

pub receive_differs : {s t : Sight} {c d : Private} {op now : RecvAt} {slot : SlotAt} {bytes after : List ℕ} {peer : ℕ} {sent : MessageHead}
    → are_peers s.seat.setup s.seat.rank peer ≡ true → SlotStands s.seat (record_in s) slot → RecvTurned (receiving s c op bytes) (receiving t d now after) (recv_turn.Mismatch sent) → RecvStands t d now after
    → IsTalking t d slot peer after None None
receive_differs peers slot turned st = record { peers = peers_kept _ turned.events turned.did peers; at = free_after_mismatch slot turned st }

-- a turn of the slot
pub slot_goes_on : {s t : Sight} {c d : Private} {slot now : SlotAt} {bytes : List ℕ} {peer : ℕ} {answer : Turn} → IsTalking s c slot peer bytes None None
    → SlotTurned (holding_slot s c slot) (holding_slot t d now) answer → SlotStands t.seat (record_in t) now → IsTalking t d now peer bytes None None
slot_goes_on talk turned st = record { peers = peers_kept _ turned.events turned.did talk.peers; at = free_after_slot talk.at turned st }

-- ---- the two ranks of a pair

pub first_of_two : (s : SetupView) {i j : ℕ} → s.nue ≡ 2 → i ≡ 0 → j ≡ 1 → are_peers s i j ≡ true
first_of_two s two first second = rw two (rw first (rw second refl))

pub second_of_two : (s : SetupView) {i j : ℕ} → s.nue ≡ 2 → i ≡ 1 → j ≡ 0 → are_peers s i j ≡ true
second_of_two s two second first = rw two (rw second (rw first refl))
