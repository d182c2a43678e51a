-- One step of a collective call over a communicator.
use Rattle.std.proofs.Common.{◌≡◌, ◌≢◌, ℕ, ◌<◌, ◌≤◌, ◌==◌, ◌&&◌, not, Bool, true, false, List, [], ◌∷◌, ◌++◌, length, Option, Some, refl, sym, ap, ◌∙◌, subst, arith}
use Rattle.std.specs.Prelude.{nat_lt, slice_index}
use Rattle.std.proofs.lemmas.Bool.{lt-ltb}
use Rattle.std.proofs.lemmas.Grind.{same_number_lists}
use Rattle.std.proofs.lemmas.List.{append-nil}
use Rattle.scc_base.specs.Calls.{DataCall}
use Rattle.scc_base.specs.Calls.DataCall.{Send as CallSend, Recv as CallRecv}
use Rattle.scc_base.specs.Heads.{IsHead, MessageHead}
use Rattle.scc_base.specs.Setups.{SetupView}
use Rattle.scc_base.specs.declared.events.Spot.{Spot}
use Rattle.scc_proto.specs.Ports.{Seat, Sight, record_in}
use Rattle.scc_proto.specs.Records.{chunk_of}
use Rattle.scc_proto.specs.Words.{are_peers}
use Rattle.scc_proto.proofs.PortLaws.{seat_kept}
use Rattle.scc_proto.proofs.Tests.{eqb_other}
use Rattle.groups.specs.Peers.{IsPeer}
use Rattle.groups.specs.declared.collectives.Step.{Step}
use Rattle.groups.specs.declared.collectives.Step.TheVariants.{Send, Recv}
use Rattle.send_recv.specs.Calling.{RecvDiffers, RecvStalled, Received, SendStalled, Sent}
use Rattle.send_recv.specs.Ops.{RecvAt, SendAt, is_received, is_sent, new_receive, new_send}
use Rattle.send_recv.specs.Receiving.{filled_to, recv_call}
use Rattle.send_recv.specs.Sending.{send_call}
use Rattle.send_recv.specs.Sights.{chunk_at}
use Rattle.send_recv.proofs.Starts.{receive_starts, send_starts}
use Rattle.station.specs.Calls.{OnlyMessages, after_receive, after_send, in_receive, in_send}
use Rattle.station.specs.Groups.{HandDiffers, HasStepped, IsInStepReceive, IsInStepSend, IsAtStart, SaysWhyStep, StandsInStep, StepLeaves, StepRank, in_step, step_stop_of}
use Rattle.station.specs.Stations.{IsInReceive, IsInSend, NoCallOpen, StationAt}
use Rattle.station.specs.Steps.{Held, GroupPart, StepDoes, begun_receive, begun_send, bytes_into, bytes_sent_by, with_received}
use Rattle.station.specs.Stops.{SaysWhy, StopsReceive}
use Rattle.station.specs.declared.steps.StepStop.{StepStop}
use Rattle.station.specs.declared.steps.StepStop.TheVariants as step_stop
use Rattle.station.specs.declared.stops.SendStall.{SendStall}
use Rattle.station.specs.declared.stops.RecvStop.{RecvStop}
use Rattle.station.specs.declared.stops.RecvStop.TheVariants as recv_stop
use Rattle.station.specs.declared.steps.Hand.{Hand}
use Rattle.station.specs.declared.steps.Hand.TheVariants.{Between, Sending, Receiving}

-- ---- buffers

pub filled_is : (root : Bool) (bytes : List ℕ) (h : Held) → bytes_into root (with_received root bytes h) ≡ bytes
filled_is true bytes h = refl
filled_is false bytes h = refl

filled_again : (root : Bool) (bytes later : List ℕ) (h : Held) → with_received root later (with_received root bytes h) ≡ with_received root later h
filled_again true bytes later h = refl
filled_again false bytes later h = refl

filled_same : (root : Bool) (h : Held) → with_received root (bytes_into root h) h ≡ h
filled_same true h = refl
filled_same false h = refl

-- ---- a step that is a message, or none

abbrev to_in : Option Step → ℕ
to_in (Some (Send to head)) = to
to_in step = 0

abbrev head_in : Option Step → MessageHead
head_in (Some (Send to head)) = head
head_in (Some (Recv from head)) = head
head_in step = record { kind = 0; comm = 0; len = 0 }

abbrev pub is_message : Option Step → Bool
is_message (Some (Send to head)) = true
is_message (Some (Recv from head)) = true
is_message step = false

abbrev is_send : Option Step → Bool
is_send (Some (Send to head)) = true
is_send step = false

true_not_false : {A : Type 0} → true ≡ false → A
true_not_false same = absurd (cc)

-- a step that is no message begins between two messages
pub at_start : (before : Held) (r : StepRank) (next : Option Step) (hand : Hand) → is_message next ≡ false → StandsInStep before r next hand → IsAtStart before r
at_start before r next Between alone at = at
at_start before r next (Sending op) alone at = true_not_false (sym (ap is_message at.next_is) ∙ alone)
at_start before r next (Receiving op) alone at = true_not_false (sym (ap is_message at.next_is) ∙ alone)

-- ---- how a message begins

and_of : (a b : Bool) → a ≡ true → b ≡ true → (a && b) ≡ true
and_of a b one two = λ i. one i && two i

peers_of : (s : SetupView) (i j : ℕ) → i < s.nue → IsPeer s.nue i j → are_peers s i j ≡ true
peers_of s i j low peer =
    let other = peer.other in
    let apart : i ≢ j = λ e. other (sym e) in
    and_of (nat_lt i s.nue) (nat_lt j s.nue && not (i == j)) (lt-ltb i s.nue low)
    (and_of (nat_lt j s.nue) (not (i == j)) (lt-ltb j s.nue peer.below) (ap not (eqb_other i j apart)))

module _ (s : Sight) (a : StationAt) (free : NoCallOpen s a) (low : s.seat.rank < s.seat.setup.nue) (peer : ℕ) (head : MessageHead) (bytes : List ℕ)
    (is : IsPeer s.seat.setup.nue s.seat.rank peer) (valid : IsHead head) (long : length bytes ≡ head.len) where
  new_send_stands : IsInSend s a (new_send peer head false) bytes
  new_send_stands = record {
    stands = send_starts free.messages peer head false bytes (peers_of s.seat.setup s.seat.rank peer low is) valid (λ posted. true_not_false (sym posted)) long;
    parity = free.parity;
    registers = free.registers;
  }

  new_receive_stands : IsInReceive s a (new_receive peer head) bytes
  new_receive_stands = record {
    stands = receive_starts free.messages peer head bytes (peers_of s.seat.setup s.seat.rank peer low is) valid long;
    slot_stands = free.messages.slot_stands;
    parity = free.parity;
    registers = free.registers;
  }

module _ (before : Held) (r : StepRank) (low : r.sight.seat.rank < r.sight.seat.setup.nue) (peer : ℕ) (head : MessageHead)
    (is : IsPeer r.sight.seat.setup.nue r.sight.seat.rank peer) (valid : IsHead head) where
  pub ready_send : (hand : Hand) → length (bytes_sent_by r.part r.held) ≡ head.len → StandsInStep before r (Some (Send peer head)) hand
      → IsInStepSend before r (Some (Send peer head)) (begun_send hand peer head)
  ready_send Between long at = record {
    next_is = refl;
    plain = refl;
    unended = refl;
    held_is = at.held_is;
    stands = new_send_stands r.sight r.station at.free low peer head (bytes_sent_by r.part before) is valid
        (ap (λ (h : Held). length (bytes_sent_by r.part h)) (sym at.held_is) ∙ long);
  }
  ready_send (Sending op) long at = at
  ready_send (Receiving op) long at = true_not_false (ap is_send at.next_is)

  pub ready_receive : (hand : Hand) → length (bytes_into r.part.is_root r.held) ≡ head.len → StandsInStep before r (Some (Recv peer head)) hand
      → IsInStepReceive before r (Some (Recv peer head)) (begun_receive hand peer head)
  ready_receive Between long at =
      let here : length (bytes_into r.part.is_root before) ≡ head.len = ap (λ (h : Held). length (bytes_into r.part.is_root h)) (sym at.held_is) ∙ long in
      record {
        next_is = refl;
        long = here;
        unended = refl;
        bytes = bytes_into r.part.is_root before;
        held_is = at.held_is ∙ sym (filled_same r.part.is_root before);
        afterwards = λ k from. refl;
        stands = new_receive_stands r.sight r.station at.free low peer head (bytes_into r.part.is_root before) is valid here;
      }
  ready_receive (Sending op) long at = true_not_false (sym (ap is_send at.next_is))
  ready_receive (Receiving op) long at = at

-- ---- a send

send_call_is : (op : SendAt) (bytes : List ℕ) → op.posted ≡ false → is_sent op.stage ≡ false → send_call op bytes ≡ CallSend op.to op.head bytes ∷ []
send_call_is op bytes plain unended = rw (unended, plain) refl

module _ (before : Held) (r : StepRank) (to : ℕ) (head : MessageHead) (op : SendAt) (at : IsInStepSend before r (Some (Send to head)) op) where
  out_here : bytes_sent_by r.part before ≡ bytes_sent_by r.part r.held
  out_here = ap (bytes_sent_by r.part) (sym at.held_is)

  pub send_open : IsInSend r.sight r.station op (bytes_sent_by r.part r.held)
  send_open = subst (λ (x : List ℕ). IsInSend r.sight r.station op x) out_here at.stands

  module _ (t : Sight) (b : StationAt) where
    pub send_done : Sent (in_send r.sight r.station op (bytes_sent_by r.part r.held)) (after_send t b) → NoCallOpen t b
        → HasStepped before (Send to head) r.sight (in_step t b r.part r.held)
    send_done sent free = record {
      calls = CallSend to head (bytes_sent_by r.part before) ∷ [];
      does = (at.held_is, refl);
      made = sent.calls ∙ ap (λ (l : List DataCall). (record_in r.sight).calls ++ l)
          (send_call_is op (bytes_sent_by r.part r.held) at.plain at.unended
          ∙ (λ i. CallSend (sym (ap to_in at.next_is) i) (sym (ap head_in at.next_is) i) (sym out_here i) ∷ []));
      free = free;
    }

    module _ (polls : ℕ) (later : SendAt) (spot : Spot) (st : SendStalled (in_send r.sight r.station op (bytes_sent_by r.part r.held)) polls (in_send t b later (bytes_sent_by r.part r.held)) spot) where
      pub send_left : IsInSend t b later (bytes_sent_by r.part r.held) → IsInStepSend before (in_step t b r.part r.held) (Some (Send to head)) later
      send_left stands = record {
        next_is = at.next_is ∙ (λ i. Some (Send (sym st.same.0 i) (sym st.same.1 i)));
        plain = st.same.2 ∙ at.plain;
        unended = st.finished ∙ at.unended;
        held_is = at.held_is;
        stands = subst (λ (x : List ℕ). IsInSend t b later x) (sym out_here) stands;
      }

-- a send that gave up
pub send_why : {s t : Sight} (a b : StationAt) {op : SendAt} {bytes : List ℕ} (to : ℕ) (head : MessageHead) (part : GroupPart) (held : Held) (stall : SendStall) (result : StepStop)
    → result ≡ step_stop.Stalled (Sending stall.op) stall.spot stall.polls → (stall.polls ≡ a.polls) × SendStalled (in_send s a op bytes) a.polls (in_send t b stall.op bytes) stall.spot
    → SaysWhyStep (Some (Send to head)) s a.polls (in_step t b part held) result
send_why {s} {t} a b to head part held stall result is why =
    subst (λ (x : StepStop). SaysWhyStep (Some (Send to head)) s a.polls (in_step t b part held) x) (sym is)
    (why.0, record { events = why.1.events; did = why.1.did; tried = why.1.tried; looks = why.1.at })

pub send_only : {s t : Sight} (a b : StationAt) {op : SendAt} {bytes : List ℕ} → Sent (in_send s a op bytes) (after_send t b) → OnlyMessages s t
send_only a b sent = record { events = sent.events; did = sent.did; rest = sent.rest }

pub stalled_only : {s t : Sight} (a b : StationAt) {op later : SendAt} {bytes : List ℕ} {polls : ℕ} {spot : Spot}
    → SendStalled (in_send s a op bytes) polls (in_send t b later bytes) spot → OnlyMessages s t
stalled_only a b st = record { events = st.events; did = st.did; rest = st.rest }

-- ---- a receive

recv_call_is : (op : RecvAt) (bytes : List ℕ) → is_received op.stage ≡ false → recv_call op bytes ≡ CallRecv op.from op.head bytes ∷ []
recv_call_is op bytes unended = rw unended refl

ended_call : (op : RecvAt) (bytes : List ℕ) → is_received op.stage ≡ true → recv_call op bytes ≡ []
ended_call op bytes ended = rw ended refl

abbrev is_none : List DataCall → Bool
is_none [] = true
is_none (x ∷ xs) = false

still_unended : (op later : RecvAt) → is_received op.stage ≡ false → ((x : List ℕ) → recv_call later x ≡ recv_call op x) → is_received later.stage ≡ false
still_unended op later unended same = by (is_received later.stage) refl
  where
    by : (b : Bool) → is_received later.stage ≡ b → is_received later.stage ≡ false
    by false is = is
    by true is = true_not_false (ap is_none (sym (ended_call later [] is) ∙ same [] ∙ recv_call_is op [] unended))

module _ (before : Held) (r : StepRank) (next : Option Step) (op : RecvAt) (at : IsInStepReceive before r next op) where
  bytes_here : at.bytes ≡ bytes_into r.part.is_root r.held
  bytes_here = sym (ap (bytes_into r.part.is_root) at.held_is ∙ filled_is r.part.is_root at.bytes before)

  pub receive_open : IsInReceive r.sight r.station op (bytes_into r.part.is_root r.held)
  receive_open = subst (λ (x : List ℕ). IsInReceive r.sight r.station op x) bytes_here at.stands

  module _ (t : Sight) (b : StationAt) (bytes : List ℕ) (held : Held) (is : held ≡ with_received r.part.is_root bytes r.held) where
    there : held ≡ with_received r.part.is_root bytes before
    there = is ∙ ap (with_received r.part.is_root bytes) at.held_is ∙ filled_again r.part.is_root at.bytes bytes before

    pub receive_done : (polls : ℕ) → Received (in_receive r.sight r.station op (bytes_into r.part.is_root r.held)) polls (after_receive t b bytes) → NoCallOpen t b
        → HasStepped before (Recv op.from op.head) r.sight (in_step t b r.part held)
    receive_done polls got free = record {
      calls = CallRecv op.from op.head bytes ∷ [];
      does = (bytes, there, refl);
      made = got.calls ∙ ap (λ (l : List DataCall). (record_in r.sight).calls ++ l) (recv_call_is op bytes at.unended);
      free = free;
    }

    pub receive_left : (polls : ℕ) (later : RecvAt) (spot : Spot)
        → RecvStalled (in_receive r.sight r.station op (bytes_into r.part.is_root r.held)) polls (in_receive t b later bytes) spot → IsInReceive t b later bytes
        → IsInStepReceive before (in_step t b r.part held) next later
    receive_left polls later spot st stands =
        let size = ap (λ (x : Seat). chunk_of x.setup) (seat_kept r.sight st.events t st.did) in
        record {
          next_is = at.next_is ∙ (λ i. Some (Recv (sym st.same.0 i) (sym st.same.1 i)));
          long = at.long ∙ ap (λ (h : MessageHead). h.len) (sym st.same.1);
          unended = still_unended op later at.unended st.call_left;
          bytes = bytes;
          held_is = there;
          afterwards = λ k from.
              let past : filled_to (chunk_at r.sight) later ≤ k = subst (λ (n : ℕ). filled_to n later ≤ k) size from in
              let fuller : filled_to (chunk_at r.sight) op ≤ filled_to (chunk_at r.sight) later = st.fuller in
              st.afterwards k past ∙ ap (λ (l : List ℕ). slice_index l k) (sym bytes_here) ∙ at.afterwards k (omega (arith, past, fuller));
          stands = stands;
        }

    pub receive_differs : (polls : ℕ) (sent asked : MessageHead) → RecvDiffers (in_receive r.sight r.station op (bytes_into r.part.is_root r.held)) polls (after_receive t b bytes) sent asked
        → NoCallOpen t b → IsAtStart before (in_step t b r.part held)
    receive_differs polls sent asked other free =
        let none : filled_to (chunk_at r.sight) op ≡ 0 = other.none_filled in
        let long : length at.bytes ≡ op.head.len = at.stands.stands.long in
        let same : at.bytes ≡ bytes_into r.part.is_root before =
        same_number_lists at.bytes (bytes_into r.part.is_root before) (long ∙ sym at.long) (λ k low. at.afterwards k (omega (arith, none))) in
        record {
          held_is = there ∙ ap (λ (l : List ℕ). with_received r.part.is_root l before) (other.unchanged ∙ sym bytes_here ∙ same) ∙ filled_same r.part.is_root before;
          free = free;
        }

pub receive_met : {s t : Sight} (a b : StationAt) {op : RecvAt} {bytes after : List ℕ} {polls : ℕ} {sent asked : MessageHead}
    → RecvDiffers (in_receive s a op bytes) polls (after_receive t b after) sent asked → HandDiffers (Some (Recv op.from op.head)) t sent asked
receive_met a b {op = op} other = record {
  from = op.from;
  next_is = ap (λ (h : MessageHead). Some (Recv op.from h)) (sym other.is_asked);
  other = other.other;
  header = other.header;
  noted = other.noted;
  says = other.says;
}

-- ---- a step that is no message

pub alone_done : (before : Held) (r : StepRank) (step : Step) (held : Held) → IsAtStart before r → StepDoes r.part step before held []
    → HasStepped before step r.sight (in_step r.sight r.station r.part held)
alone_done before r step held at does = record { calls = []; does = does; made = sym (append-nil (record_in r.sight).calls); free = at.free }

-- ---- a receive as its function spells it: into the buffer of the root or of another rank

pub into_open : {s : Sight} {a : StationAt} {op : RecvAt} (root : Bool) (held : Held) (part : GroupPart) (before : Held) → part.is_root ≡ root
    → IsInStepReceive before (in_step s a part held) (Some (Recv op.from op.head)) op → IsInReceive s a op (bytes_into root held)
into_open {s} {a} {op} root held part before same at =
    subst (λ (x : Bool). IsInReceive s a op (bytes_into x held)) same (receive_open before (in_step s a part held) (Some (Recv op.from op.head)) op at)

module _ (s t : Sight) (a b : StationAt) (op : RecvAt) (root : Bool) (held : Held) (bytes : List ℕ) where
  module _ (part : GroupPart) (before : Held) (same : part.is_root ≡ root) (at : IsInStepReceive before (in_step s a part held) (Some (Recv op.from op.head)) op) where
    filled_by : with_received root bytes held ≡ with_received part.is_root bytes held
    filled_by = ap (λ (x : Bool). with_received x bytes held) (sym same)

    pub into_done : (polls : ℕ) → Received (in_receive s a op (bytes_into root held)) polls (after_receive t b bytes) → NoCallOpen t b
        → HasStepped before (Recv op.from op.head) s (in_step t b part (with_received root bytes held))
    into_done polls got free = receive_done before (in_step s a part held) (Some (Recv op.from op.head)) op at t b bytes (with_received root bytes held) filled_by polls
        (subst (λ (x : Bool). Received (in_receive s a op (bytes_into x held)) polls (after_receive t b bytes)) (sym same) got) free

    pub into_left : (polls : ℕ) (stop : RecvStop) (result : StepStop) → result ≡ step_stop_of stop → StopsReceive t b bytes stop
        → SaysWhy (in_receive s a op (bytes_into root held)) polls (after_receive t b bytes) stop
        → StepLeaves before (Some (Recv op.from op.head)) (in_step t b part (with_received root bytes held)) result
    into_left polls stop result is left why =
        subst (λ (x : StepStop). StepLeaves before (Some (Recv op.from op.head)) (in_step t b part (with_received root bytes held)) x) (sym is) (by stop left why)
      where
        by : (x : RecvStop) → StopsReceive t b bytes x → SaysWhy (in_receive s a op (bytes_into root held)) polls (after_receive t b bytes) x
            → StepLeaves before (Some (Recv op.from op.head)) (in_step t b part (with_received root bytes held)) (step_stop_of x)
        by (recv_stop.Stalled stall) stands says = receive_left before (in_step s a part held) (Some (Recv op.from op.head)) op at t b bytes (with_received root bytes held) filled_by
            polls stall.op stall.spot
            (subst (λ (x : Bool). RecvStalled (in_receive s a op (bytes_into x held)) polls (in_receive t b stall.op bytes) stall.spot) (sym same) says.1) stands
        by (recv_stop.Mismatch sent asked) free says = receive_differs before (in_step s a part held) (Some (Recv op.from op.head)) op at t b bytes (with_received root bytes held) filled_by
            polls sent asked (subst (λ (x : Bool). RecvDiffers (in_receive s a op (bytes_into x held)) polls (after_receive t b bytes) sent asked) (sym same) says) free

  module _ (now : List ℕ) (stop : RecvStop) (says : SaysWhy (in_receive s a op now) a.polls (after_receive t b bytes) stop) where
    pub into_why : (part : GroupPart) (later : Held) (result : StepStop) → result ≡ step_stop_of stop
        → SaysWhyStep (Some (Recv op.from op.head)) s a.polls (in_step t b part later) result
    into_why part later result is =
        subst (λ (x : StepStop). SaysWhyStep (Some (Recv op.from op.head)) s a.polls (in_step t b part later) x) (sym is) (by stop says)
      where
        by : (x : RecvStop) → SaysWhy (in_receive s a op now) a.polls (after_receive t b bytes) x
            → SaysWhyStep (Some (Recv op.from op.head)) s a.polls (in_step t b part later) (step_stop_of x)
        by (recv_stop.Stalled stall) why = (why.0, record { events = why.1.events; did = why.1.did; tried = why.1.tried; looks = why.1.at })
        by (recv_stop.Mismatch sent asked) why = receive_met a b why

    pub into_none : (record_in t).calls ≡ (record_in s).calls
    into_none = by stop says
      where
        by : (x : RecvStop) → SaysWhy (in_receive s a op now) a.polls (after_receive t b bytes) x → (record_in t).calls ≡ (record_in s).calls
        by (recv_stop.Stalled stall) why = why.1.calls
        by (recv_stop.Mismatch sent asked) why = why.calls

    pub into_only : OnlyMessages s t
    into_only = by stop says
      where
        by : (x : RecvStop) → SaysWhy (in_receive s a op now) a.polls (after_receive t b bytes) x → OnlyMessages s t
        by (recv_stop.Stalled stall) why = record { events = why.1.events; did = why.1.did; rest = why.1.rest }
        by (recv_stop.Mismatch sent asked) why = record { events = why.events; did = why.did; rest = why.rest }

pub got_only : {s t : Sight} (a b : StationAt) {op : RecvAt} {now bytes : List ℕ} {polls : ℕ} → Received (in_receive s a op now) polls (after_receive t b bytes) → OnlyMessages s t
got_only a b got = record { events = got.events; did = got.did; rest = got.rest }
