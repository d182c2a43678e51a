-- What each turn of a rank of the ring means for a run.
use Rattle.std.proofs.Common.{◌≡◌, ℕ, zero, suc, nat_lt, ◌==◌, ◌&&◌, ◌+◌, ◌<◌, Bool, true, false, not, List, [], ◌∷◌, length, slice_index_or, Option, None, refl, sym, ap, ◌∙◌, subst, arith}
use base.Stored.{Gv, gnil}
use Rattle.scc_base.specs.Heads.{MessageHead, IsHead, plain_head}
use Rattle.scc_base.specs.Setups.{SetupView}
use Rattle.scc_base.specs.declared.events.Event.{Event}
use Rattle.scc_base.specs.declared.events.Spot.{Spot}
use Rattle.scc_base.specs.declared.events.Turn.{Turn}
use Rattle.scc_base.specs.declared.events.Turn.TheVariants as turn
use Rattle.scc_proto.specs.Ports.{Did, Seat, Sight, record_in}
use Rattle.scc_proto.specs.Records.{chunk_of, record_of}
use Rattle.scc_proto.specs.Stages.{FlagWords}
use Rattle.scc_proto.specs.Words.{are_peers}
use Rattle.scc_proto.proofs.PortLaws.{did_nothing, seat_kept}
use Rattle.put_get.specs.Cores.{MadeSteps, Private}
use Rattle.sync_flags.specs.Turns.{at_port}
use Rattle.send_recv.specs.Calling.{IsBetweenMessages}
use Rattle.send_recv.specs.Ops.{RecvAt, SendAt, SlotAt, empty_slot}
use Rattle.send_recv.specs.Ranks.{receiving, sending}
use Rattle.send_recv.specs.Receiving.{RecvStands, RecvTurned, recv_left, recv_spot}
use Rattle.send_recv.specs.Sending.{SendStands, SendTurned, SlotStands, send_left, send_spot}
use Rattle.send_recv.specs.Tries.{aim_at}
use Rattle.send_recv.specs.Turns.{KeepsAllButMessages}
use Rattle.send_recv.specs.declared.answers.RecvTurn.{RecvTurn}
use Rattle.send_recv.specs.declared.answers.RecvTurn.TheVariants as got
use Rattle.send_recv.proofs.OtherPort.{free_there, receive_there, send_there, slot_there}
use Rattle.send_recv.proofs.Starts.{free_after_mismatch, free_after_received, free_after_sent, free_at_start, receive_starts, send_starts, slot_after}
use Rattle.chip_run.specs.Turns.{Turned}
use Rattle.chip_run.specs.Wants.{Want}
use Rattle.waiting_laws.proofs.Messages.{receives_here, sends_here}
use Rattle.waiting_laws.proofs.Waited.{turn_waited}
use Rattle.chip_teams.specs.Teams.{sight_alone}
use Rattle.scc_mesh.specs.Scenes.{ChipView, IsNew, about_in, events_in}
use Rattle.chip_run.specs.Away.{IsAtHome, behaviour_of_members}
use Rattle.chip_run.specs.Crews.{IsCrew}
use Rattle.chip_run.specs.declared.members.Member.{Member}
use Rattle.run_rows.specs.Rings.{IsAtMessage, IsPassing, IsSeated, message_to_begin, after_receiving, after_sending, ring_left, left_of_receive, left_of_send, passer_behaviour, passer_seen}
use Rattle.run_rows.specs.declared.rings.Message.{Message}
use Rattle.run_rows.specs.declared.rings.Message.TheVariants.{Sending, Receiving, Over}
use Rattle.run_rows.specs.declared.rings.Passer.{Passer}

-- ---- the state of a rank, whatever port shows its events

at_there : (s : Sight) (m r : Gv) (h : ℕ) (c : Private) (slot : SlotAt) (number : List ℕ) (message : Message) → IsAtMessage s c slot number message → IsAtMessage (at_port s m r h) c slot number message
at_there s m r h c slot number (Sending op) st = send_there s m r h c op slot number st
at_there s m r h c slot number (Receiving op) st = (receive_there s m r h c op number st.0, slot_there s m r h slot st.1)
at_there s m r h c slot number Over st = free_there s m r h c slot st

-- the state agrees with a port of its rank
pub shown : (p : Passer) (s : Sight) → IsPassing p s.seat.setup s.seat.rank s.events → IsAtMessage s p.core p.slot p.number p.message
shown p s ties = at_there (sight_alone s.seat.setup s.seat.rank s.events) s.seat.mark s.seat.rest s.seat.hold p.core p.slot p.number p.message ties.at

-- and conversely, after events that changed no register
module _ (p q : Passer) (s t : Sight) (events : List Event) (did : Did s events t) (ties : IsPassing p s.seat.setup s.seat.rank s.events) where
  kept : (peer : ℕ) → are_peers s.seat.setup s.seat.rank peer ≡ true → are_peers t.seat.setup t.seat.rank peer ≡ true
  kept peer peers = subst (λ (x : Seat). are_peers x.setup x.rank peer ≡ true) (sym (seat_kept s events t did)) peers

  stands_on : q.to ≡ p.to → q.from ≡ p.from → q.head ≡ p.head → length q.number ≡ length p.number → KeepsAllButMessages (record_in s) (record_in t) → IsAtMessage t q.core q.slot q.number q.message
      → IsPassing q t.seat.setup t.seat.rank t.events
  unfolding record_in
  stands_on to from head long rest at = record {
    at = at_there t gnil gnil 0 q.core q.slot q.number q.message at;
    next = ap (are_peers t.seat.setup t.seat.rank) to ∙ kept p.to ties.next;
    before = ap (are_peers t.seat.setup t.seat.rank) from ∙ kept p.from ties.before;
    head = subst IsHead (sym head) ties.head;
    long = long ∙ ties.long ∙ ap (λ (h : MessageHead). h.len) (sym head);
    hands = λ core. ap (λ (held : ℕ → Option FlagWords). held core) rest.hold ∙ ties.hands core;
  }

-- a message that may begin, begins
begins : (s : Sight) (c : Private) (slot : SlotAt) (number : List ℕ) (sends gets : Bool) (head : MessageHead) (from to : ℕ) → IsBetweenMessages s c slot → are_peers s.seat.setup s.seat.rank from ≡ true
    → are_peers s.seat.setup s.seat.rank to ≡ true → IsHead head → length number ≡ head.len → IsAtMessage s c slot number (message_to_begin sends gets head from to)
begins s c slot number true gets head from to free before next valid long = send_starts free to head false number next valid (λ posted. absurd (cc (posted))) long
begins s c slot number false true head from to free before next valid long = (receive_starts free from head number before valid long, free.slot_stands)
begins s c slot number false false head from to free before next valid long = free

one_byte : IsHead (plain_head 1)
one_byte = record { kind_below = omega arith; comm_below = omega arith; len_within = omega arith; plain_in_world = λ is. refl }

-- before its first event a rank begins its first message
pub starts : (p : Passer) (s : SetupView) (rank : ℕ) → p.core.out ≡ None → p.slot ≡ empty_slot → length p.number ≡ 1 → p.head ≡ plain_head 1 → p.message ≡ message_to_begin p.is_first (not p.is_first) p.head p.from p.to
    → are_peers s rank p.from ≡ true → are_peers s rank p.to ≡ true → IsPassing p s rank []
unfolding record_of
starts p s rank empty new long head begins_it before next =
    let free : IsBetweenMessages (sight_alone s rank []) p.core p.slot = subst (λ (x : SlotAt). IsBetweenMessages (sight_alone s rank []) p.core x) (sym new) (free_at_start (sight_alone s rank []) p.core refl empty) in
    let valid : IsHead p.head = subst IsHead (sym head) one_byte in
    let fits : length p.number ≡ p.head.len = long ∙ ap (λ (h : MessageHead). h.len) (sym head) in
    record {
      at = subst (λ (m : Message). IsAtMessage (sight_alone s rank []) p.core p.slot p.number m) (sym begins_it)
          (begins (sight_alone s rank []) p.core p.slot p.number p.is_first (not p.is_first) p.head p.from p.to free before next valid fits);
      next = next;
      before = before;
      head = valid;
      long = fits;
      hands = λ core. refl;
    }

-- fewer turns remain after a complete message, and after a turn that moved
fewer : (this next : ℕ) → next + 0 < (this + 1) + next
fewer this next = omega arith

none_left : (this next : ℕ) → 0 < (this + 1) + next
none_left this next = omega arith

one_fewer : (old now next : ℕ) → old ≡ now + 1 → (now + 1) + next < (old + 1) + next
one_fewer old now next less = omega (arith, less)

module _ (s : SetupView) (head : MessageHead) (from to : ℕ) where
  less_sent : (slot after : SlotAt) (is_first : Bool) (op : SendAt)
      → ring_left s after (message_to_begin false is_first head from to) (message_to_begin (not is_first) false head from to) (message_to_begin false is_first head from to)
      < ring_left s slot (message_to_begin false is_first head from to) (message_to_begin (not is_first) false head from to) (Sending op)
  less_sent slot after true op = fewer (send_left s.layout (chunk_of s) op slot) (left_of_receive s (message_to_begin false true head from to))
  less_sent slot after false op = none_left (send_left s.layout (chunk_of s) op slot) 0

  less_received : (slot : SlotAt) (is_first : Bool) (op : RecvAt)
      → ring_left s slot (message_to_begin false is_first head from to) (message_to_begin (not is_first) false head from to) (message_to_begin (not is_first) false head from to)
      < ring_left s slot (message_to_begin false is_first head from to) (message_to_begin (not is_first) false head from to) (Receiving op)
  less_received slot true op = none_left (recv_left (chunk_of s) op) 0
  less_received slot false op = fewer (recv_left (chunk_of s) op) (left_of_send s slot (message_to_begin true false head from to))

-- a turn, after which the rank's state agrees with its events
pub record Passes (stepped : Seat → List Event → Event → Type 0) (p : Passer) (s : Sight) (now : Passer) (t : Sight) (answer : Turn) : Type 0 where
  pub ties : IsPassing now t.seat.setup t.seat.rank t.events
  pub turned : Turned passer_behaviour (stepped s.seat) p s now t answer

-- after the turn the state may be replaced by an equal one
pub passes_to : (stepped : Seat → List Event → Event → Type 0) (p : Passer) (s : Sight) (now spelled : Passer) (t : Sight) (answer : Turn) → now ≡ spelled → Passes stepped p s now t answer → Passes stepped p s spelled t answer
passes_to stepped p s now spelled t answer same passes = subst (λ (x : Passer). Passes stepped p s x t answer) same passes

-- a rank whose state is replaced by an equal one
pub passes_as : (stepped : Seat → List Event → Event → Type 0) (p q : Passer) (s : Sight) (now : Passer) (t : Sight) (answer : Turn) → p ≡ q → IsPassing p s.seat.setup s.seat.rank s.events
    → (IsPassing q s.seat.setup s.seat.rank s.events → Passes stepped q s now t answer) → Passes stepped p s now t answer
passes_as stepped p q s now t answer same ties passes =
    subst (λ (x : Passer). Passes stepped x s now t answer) (sym same) (passes (subst (λ (x : Passer). IsPassing x s.seat.setup s.seat.rank s.events) same ties))

-- ---- a turn of a send

module _ (stepped : Seat → List Event → Event → Type 0) (p : Passer) (op now : SendAt) (s t : Sight) (core : Private) (slot : SlotAt) (ties : IsPassing (record p { message = Sending op }) s.seat.setup s.seat.rank s.events)
    (stands : SendStands t core now slot p.number) where
  abbrev before_send : Passer
  before_send = record p { message = Sending op }

  abbrev sent_on : Passer
  sent_on = record p { core = core; slot = slot; message = Sending now }

  abbrev SendTurn : Turn → Type 0
  SendTurn answer = SendTurned (sending s p.core op p.slot p.number) (sending t core now slot p.number) answer

  pub send_moved : SendTurn turn.Moved → Passes stepped before_send s sent_on t turn.Moved
  send_moved turned = record {
    ties = stands_on before_send sent_on s t turned.events turned.did ties refl refl refl refl turned.rest stands;
    turned = record {
      events = turned.events;
      did = turned.did;
      means = record {
        moves = record { from = refl; to = refl; is_first = refl };
        less = one_fewer (send_left s.seat.setup.layout (chunk_of s.seat.setup) op p.slot) (send_left s.seat.setup.layout (chunk_of s.seat.setup) now slot) (left_of_receive s.seat.setup (after_sending p)) turned.means.0;
      };
    };
  }

  pub send_done : SendTurn turn.Done → Passes stepped before_send s (record p { core = core; slot = slot; message = after_sending p }) t turn.Moved
  send_done turned =
      let after : Passer = record p { core = core; slot = slot; message = after_sending p } in
      record {
        ties = stands_on before_send after s t turned.events turned.did ties refl refl refl refl turned.rest
            (begins t core slot p.number false p.is_first p.head p.from p.to (free_after_sent turned stands) (kept before_send after s t turned.events turned.did ties p.from ties.before)
            (kept before_send after s t turned.events turned.did ties p.to ties.next) ties.head ties.long);
        turned = record {
          events = turned.events;
          did = turned.did;
          means = record { moves = record { from = refl; to = refl; is_first = refl }; less = less_sent s.seat.setup p.head p.from p.to p.slot slot p.is_first op };
        };
      }

  pub send_waited : (spot : Spot) → SendTurn (turn.Waiting spot) → MadeSteps stepped s t → Passes stepped before_send s sent_on t (turn.Waiting spot)
  send_waited spot turned made = record {
    ties = stands_on before_send sent_on s t turned.events turned.did ties refl refl refl refl turned.rest stands;
    turned = record {
      events = turned.events;
      did = turned.did;
      means = turn_waited (stepped s.seat) (aim_at s.seat.setup.layout (send_spot s.seat op p.slot)) s t turned.events spot turned.did (made turned.events turned.did) turned.tried (turned.rests spot refl)
          turned.means.2 passer_behaviour before_send sent_on (Want.Send op.to op.head) refl (record { from = refl; to = refl; is_first = refl })
          (λ i. passer_seen s.seat.setup s.seat.rank (record p { slot = turned.means.1 i; message = Sending (turned.means.0 i) }))
          (λ memory records aim look is. sends_here s.seat memory records (record_in s) aim look p.core op p.slot p.number (shown before_send s ties) is);
    };
  }

-- ---- a turn of a receive

module _ (stepped : Seat → List Event → Event → Type 0) (p : Passer) (op now : RecvAt) (s t : Sight) (core : Private) (number : List ℕ) (ties : IsPassing (record p { message = Receiving op }) s.seat.setup s.seat.rank s.events)
    (stands : RecvStands t core now number) where
  abbrev before_receive : Passer
  before_receive = record p { message = Receiving op }

  abbrev got_on : Passer
  got_on = record p { core = core; number = number; message = Receiving now }

  abbrev RecvTurnOf : RecvTurn → Type 0
  RecvTurnOf answer = RecvTurned (receiving s p.core op p.number) (receiving t core now number) answer

  at_before : RecvStands s p.core op p.number × SlotStands s.seat (record_in s) p.slot
  at_before = shown before_receive s ties

  -- the number keeps its length
  as_long : now.head ≡ op.head → length number ≡ length p.number
  as_long same = stands.long ∙ ap (λ (h : MessageHead). h.len) same ∙ sym at_before.0.long

  pub moved : RecvTurnOf got.Moved → Passes stepped before_receive s got_on t turn.Moved
  moved turned = record {
    ties = stands_on before_receive got_on s t turned.events turned.did ties refl refl refl (as_long turned.same.1) turned.rest (stands, slot_after turned.events turned.did turned.post at_before.1);
    turned = record {
      events = turned.events;
      did = turned.did;
      means = record {
        moves = record { from = refl; to = refl; is_first = refl };
        less = one_fewer (recv_left (chunk_of s.seat.setup) op) (recv_left (chunk_of s.seat.setup) now) (left_of_send s.seat.setup p.slot (after_receiving p)) turned.means.0;
      };
    };
  }

  pub done : RecvTurnOf got.Done → (raised : List ℕ) → length raised ≡ length number → Passes stepped before_receive s (record p { core = core; number = raised; message = after_receiving p }) t turn.Moved
  done turned raised one =
      let after : Passer = record p { core = core; number = raised; message = after_receiving p } in
      let long = one ∙ as_long turned.same.1 in
      record {
        ties = stands_on before_receive after s t turned.events turned.did ties refl refl refl long turned.rest
            (begins t core p.slot raised (not p.is_first) false p.head p.from p.to (free_after_received at_before.1 turned stands) (kept before_receive after s t turned.events turned.did ties p.from ties.before)
            (kept before_receive after s t turned.events turned.did ties p.to ties.next) ties.head (long ∙ ties.long));
        turned = record {
          events = turned.events;
          did = turned.did;
          means = record { moves = record { from = refl; to = refl; is_first = refl }; less = less_received s.seat.setup p.head p.from p.to p.slot p.is_first op };
        };
      }

  pub met : (sent : MessageHead) → RecvTurnOf (got.Mismatch sent) → Passes stepped before_receive s (record p { core = core; number = number; message = Over; stopped = true }) t turn.Moved
  met sent turned =
      let after : Passer = record p { core = core; number = number; message = Over; stopped = true } in
      record {
        ties = stands_on before_receive after s t turned.events turned.did ties refl refl refl (as_long turned.same.1) turned.rest (free_after_mismatch at_before.1 turned stands);
        turned = record {
          events = turned.events;
          did = turned.did;
          means = record { moves = record { from = refl; to = refl; is_first = refl }; less = none_left (recv_left (chunk_of s.seat.setup) op) (left_of_send s.seat.setup p.slot (after_receiving p)) };
        };
      }

  pub waited : (spot : Spot) → RecvTurnOf (got.Waiting spot) → MadeSteps stepped s t → Passes stepped before_receive s got_on t (turn.Waiting spot)
  waited spot turned made = record {
    ties = stands_on before_receive got_on s t turned.events turned.did ties refl refl refl (as_long turned.same.1) turned.rest (stands, slot_after turned.events turned.did turned.post at_before.1);
    turned = record {
      events = turned.events;
      did = turned.did;
      means = turn_waited (stepped s.seat) (aim_at s.seat.setup.layout (recv_spot s.seat op)) s t turned.events spot turned.did (made turned.events turned.did) turned.tried (turned.rests spot refl)
          turned.means.2 passer_behaviour before_receive got_on (Want.Recv op.from) refl (record { from = refl; to = refl; is_first = refl })
          (λ i. passer_seen s.seat.setup s.seat.rank (record p { message = Receiving (turned.means.0 i) }))
          (λ memory records aim look is. receives_here s.seat memory records (record_in s) aim look p.core op p.number at_before.0 is);
    };
  }

-- ---- a rank with no unfinished message makes no turn

pub over : (stepped : Seat → List Event → Event → Type 0) (p : Passer) (s : Sight) → IsPassing (record p { message = Over }) s.seat.setup s.seat.rank s.events
    → Passes stepped (record p { message = Over }) s (record p { message = Over }) s turn.Done
unfolding record_in
over stepped p s ties = record {
  ties = ties;
  turned = record {
    events = [];
    did = did_nothing s;
    means = record {
      stays = record { from = refl; to = refl; is_first = refl };
      seen = refl;
      nothing = refl;
      over = record { ends = refl; idle = let free : IsBetweenMessages s p.core p.slot = shown (record p { message = Over }) s ties in free.between.stage };
    };
  };
}

-- ---- four ranks of a ring on a new chip

peers_of : (s : SetupView) (i j : ℕ) → s.nue ≡ 4 → (nat_lt i 4 && (nat_lt j 4 && not (i == j))) ≡ true → are_peers s i j ≡ true
peers_of s i j four both = ap (λ (n : ℕ). nat_lt i n && (nat_lt j n && not (i == j))) four ∙ both

pub four_seated : (chip : ChipView) (a b c e : Member Passer) → IsNew (about_in chip) chip → (about_in chip).nue ≡ 4 → IsSeated a 3 1 → IsSeated b 0 2 → IsSeated c 1 3 → IsSeated e 2 0
    → IsCrew (behaviour_of_members passer_behaviour) chip (a ∷ b ∷ c ∷ e ∷ [])
four_seated chip a b c e new four one two three last = record { whole = new.whole; each = sym four; ties = ties }
  where
    at : (m : Member Passer) (from to k : ℕ) → IsSeated m from to → are_peers (about_in chip) k from ≡ true → are_peers (about_in chip) k to ≡ true → IsAtHome (IsPassing m.worker) m.token (about_in chip) k (events_in chip k)
    at m from to k seated before next =
        record { ties = subst (λ (events : List Event). IsPassing m.worker (about_in chip) k events) (sym (new.empty k)) (seated.ready (about_in chip) k before next); empty = seated.home }

    ties : (k : ℕ) (d : Member Passer) → k < 4
        → IsAtHome (IsPassing (slice_index_or (a ∷ b ∷ c ∷ e ∷ []) k d).worker) (slice_index_or (a ∷ b ∷ c ∷ e ∷ []) k d).token (about_in chip) k (events_in chip k)
    ties zero d low = at a 3 1 0 one (peers_of (about_in chip) 0 3 four refl) (peers_of (about_in chip) 0 1 four refl)
    ties (suc zero) d low = at b 0 2 1 two (peers_of (about_in chip) 1 0 four refl) (peers_of (about_in chip) 1 2 four refl)
    ties (suc (suc zero)) d low = at c 1 3 2 three (peers_of (about_in chip) 2 1 four refl) (peers_of (about_in chip) 2 3 four refl)
    ties (suc (suc (suc zero))) d low = at e 2 0 3 last (peers_of (about_in chip) 3 2 four refl) (peers_of (about_in chip) 3 0 four refl)
    ties (suc (suc (suc (suc k)))) d low = absurd (omega (arith, low))
