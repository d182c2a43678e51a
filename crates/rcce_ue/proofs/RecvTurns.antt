-- A turn of a UE that stands at a receive.
use Rattle.std.proofs.Common.{◌≡◌, ◌≢◌, ℕ, ◌+◌, ◌-◌, ◌<◌, Bool, true, false, cond, List, [], ◌∷◌, ◌++◌, length, take, Some, refl, sym, ap, ◌∙◌, subst, arith, inl, inr, sum_by}
use Rattle.scc_base.specs.Calls.{DataCall}
use Rattle.scc_base.specs.Calls.DataCall.{Recv}
use Rattle.scc_base.specs.Heads.{MessageHead}
use Rattle.scc_base.specs.Setups.{SetupView}
use Rattle.scc_base.specs.declared.events.Event.{Event}
use Rattle.scc_base.specs.declared.events.Spot.{Spot}
use Rattle.scc_base.specs.declared.events.Turn.TheVariants as turn
use Rattle.scc_proto.specs.Ports.{Seat, Sight, record_in}
use Rattle.scc_proto.specs.Records.{chunk_of}
use Rattle.scc_proto.specs.Stages.{Idle}
use Rattle.scc_proto.proofs.PortLaws.{seat_kept}
use Rattle.put_get.specs.Cores.{Private}
use Rattle.send_recv.specs.Ops.{RecvAt, is_received, slot_left}
use Rattle.send_recv.specs.Receiving.{IsAtRecvStage, RecvStands, RecvTurned, recv_call, recv_left}
use Rattle.send_recv.specs.Sending.{SlotStands}
use Rattle.send_recv.specs.Turns.{StoresFromBuffer, is_no_draft}
use Rattle.send_recv.specs.declared.answers.RecvTurn.{RecvTurn}
use Rattle.send_recv.specs.declared.answers.RecvTurn.TheVariants as receive
use Rattle.send_recv.specs.declared.stages.RecvStage.{RecvStage}
use Rattle.send_recv.specs.Ranks.{receiving}
use Rattle.send_recv.proofs.Starts.{slot_stays}
use Rattle.std.specs.List.{count_by, list_all}
use Rattle.plain_meaning.specs.Collectives.{start_of_rank}
use Rattle.script_machine.specs.Local.{Local, local_next}
use Rattle.script_machine.specs.Moves.{is_stopped, length_asked, after_refusal, after_take}
use Rattle.script_machine.specs.Next.{Next}
use Rattle.script_machine.specs.Next.Next.{Recvs}
use Rattle.script_machine.proofs.StoppedLaws.{refused_stops}
use Rattle.rcce_ue.specs.Left.{ue_left, next_bound, rest_of, unless}
use Rattle.rcce_ue.specs.Standing.{IsFree, IsRecvOf, Tied, bytes_sent, keeping}
use Rattle.rcce_ue.specs.Turns.{After, IsUeStill, Turns}
use Rattle.rcce_ue.specs.Ues.{UeView, capped_count, at_next_call, is_send_call}
use Rattle.rcce_ue.specs.declared.calls.Open.TheVariants.{Receiving}
use Rattle.rcce_ue.proofs.CountLemmas.{bytes_same, sends_same}
use Rattle.rcce_ue.proofs.EnterLemmas.{entered_left, entered_tied}
use Rattle.rcce_ue.proofs.KeepLemmas.{begun_at, after_by, hands_kept, is_calling, kept_tied, moved_within, not_at_end, not_ended, not_going, not_over, parity_kept, turned_by, unless_below, unless_one}
use Rattle.rcce_ue.proofs.MeasureLemmas.{falls}
use Rattle.rcce_ue.proofs.PathLemmas.{goes_on, stood_got, stood_refused}

-- a call stands next
pub calls_next : (op : RecvAt) (n : Next Local) → IsRecvOf op n → is_calling n ≡ true
calls_next op (Recvs from head take_in refuse) of = refl
calls_next op _ of = absurd of

open_of : (op : RecvAt) (n : Next Local) → IsRecvOf op n → is_received op.stage ≡ false
open_of op (Recvs from head take_in refuse) of = of.2
open_of op _ of = absurd of

still_of : (op now : RecvAt) (n : Next Local) → (now.from ≡ op.from) × (now.head ≡ op.head) → is_received now.stage ≡ false → IsRecvOf op n → IsRecvOf now n
still_of op now (Recvs from head take_in refuse) same on of = (same.0 ∙ of.0, same.1 ∙ of.1, on)
still_of op now _ same on of = absurd of

-- the call that is finished
got_call : (op : RecvAt) (from : ℕ) (head : MessageHead) (bytes : List ℕ) → op.from ≡ from → op.head ≡ head → is_received op.stage ≡ false → recv_call op bytes ≡ Recv from head bytes ∷ []
got_call op from head bytes at is on = λ i. cond (on i) [] (Recv (at i) (is i) bytes ∷ [])

-- a receive stores no word of a message
pub none_stored : (s : SetupView) (c : Private) (events : List Event) → list_all (is_no_draft s) events ≡ true → StoresFromBuffer s c events
none_stored s c events none = record { front = []; rest = events; is = refl; none_or_all = inl refl; no_draft = none }

module _ (ue : UeView) (s t : Sight) (op : RecvAt) (tied : Tied (record ue { op = Receiving op }) s) where
  of_next : IsRecvOf op (local_next ue.machine.local)
  of_next = tied.stands.1

  at_call : is_calling (local_next ue.machine.local) ≡ true
  at_call = calls_next op (local_next ue.machine.local) of_next

  on : is_stopped ue.machine.local ≡ false
  on = goes_on ue.machine.local (not_at_end (local_next ue.machine.local) at_call)

  -- the front of the inbox that the message fills
  abbrev front_of : List ℕ → List ℕ
  front_of inbox = take (length_asked (local_next ue.machine.local)) inbox

  module _ (d : Private) (now : RecvAt) (inbox : List ℕ) (room : length inbox ≡ 65536) (stands : RecvStands t d now (front_of inbox)) where
    abbrev Turned : RecvTurn → Type 0
    Turned answer = RecvTurned (receiving s ue.core op (front_of ue.inbox)) (receiving t d now (front_of inbox)) answer

    abbrev pub later_recv : UeView
    later_recv = record ue { core = d; op = Receiving now; inbox = inbox }

    kept : (answer : RecvTurn) (r : Turned answer) → is_received now.stage ≡ false → (record_in t).calls ≡ (record_in s).calls → Tied later_recv t
    kept answer r open_still calls =
        kept_tied (record ue { op = Receiving op }) s t tied (seat_kept s r.events t r.did) on calls r.rest.hold d ue.slot ue.parity (Receiving now) inbox
        (subst (λ (x : Seat). SlotStands x (record_in t) ue.slot) (sym (seat_kept s r.events t r.did)) (slot_stays s.seat (record_in s) (record_in t) ue.slot r.post tied.slot_is)) (inr refl)
        (parity_kept (record_in s) (record_in t) ue.parity r.rest.flips tied.parity_is) room
        (stands, still_of op now (local_next ue.machine.local) r.same open_still of_next)

    pub recv_moved : Turned receive.Moved → Turns (record ue { op = Receiving op }) s later_recv t turn.Moved
    recv_moved r = record {
      tied = kept receive.Moved r r.means.3 r.means.1;
      turned = turned_by (record ue { op = Receiving op }) s later_recv t turn.Moved r.events r.did r.does (refl, refl, refl) r.tried (λ spot same. absurd (cc)) tt
          (moved_within (record ue { op = Receiving op }) later_recv s t on (not_ended (local_next ue.machine.local) at_call) refl (unless_one (is_stopped ue.machine.local) _ _ on one)) r.rest.heap (none_stored s.seat.setup ue.core r.events r.no_drafts) r.held;
    }
      where
        one : (slot_left ue.slot + 1 + recv_left (chunk_of ue.machine.setup) op) + (rest_of ue.machine.setup ue.machine.rank ue.machine.local - (1 + next_bound ue.machine.setup ue.machine.rank (local_next ue.machine.local)))
            ≡ (slot_left ue.slot + 1 + recv_left (chunk_of ue.machine.setup) now) + (rest_of ue.machine.setup ue.machine.rank ue.machine.local - (1 + next_bound ue.machine.setup ue.machine.rank (local_next ue.machine.local))) + 1
        one =
            let fewer = subst (λ (x : SetupView). recv_left (chunk_of x) op ≡ recv_left (chunk_of x) now + 1) tied.setup_is r.means.0 in
            omega (arith, fewer)

    pub recv_waited : (spot : Spot) → Turned (receive.Waiting spot) → Turns (record ue { op = Receiving op }) s later_recv t (turn.Waiting spot)
    recv_waited spot r =
        let still : IsUeStill (record ue { op = Receiving op }) later_recv = (λ i. record ue { core = d; inbox = inbox; op = Receiving (r.means.0 i) }) in
        record {
          tied = kept (receive.Waiting spot) r (ap (λ (x : RecvAt). is_received x.stage) r.means.0 ∙ open_of op (local_next ue.machine.local) of_next) r.means.2.calls;
          turned = turned_by (record ue { op = Receiving op }) s later_recv t (turn.Waiting spot) r.events r.did r.does (refl, refl, refl) r.tried (λ at same. r.rests spot refl) r.only
              (still, ap ue_left still, r.means.2, not_over (record ue { op = Receiving op }) on (not_ended (local_next ue.machine.local) at_call), not_going (local_next ue.machine.local) at_call) r.rest.heap (none_stored s.seat.setup ue.core r.events r.no_drafts) r.held;
        }

    -- the UE after the turn that ends the receive, or that refuses the message
    abbrev pub done_recv : Next Local → UeView
    done_recv n = at_next_call (record ue { machine = record ue.machine { local = after_take n (take (length_asked n) inbox) ue.machine.local }; core = d; inbox = inbox })

    abbrev pub refused_recv : Next Local → MessageHead → UeView
    refused_recv n sent = at_next_call (record ue { machine = record ue.machine { local = after_refusal n sent ue.machine.local }; core = d; inbox = inbox })

    module _ (answer : RecvTurn) (r : Turned answer) where
      seat : t.seat ≡ s.seat
      seat = seat_kept s r.events t r.did

      free : (record_in t).stage ≡ Idle → IsFree t (keeping d ue.slot ue.parity)
      free idle = record {
        messages = record {
          between = record { stage = idle; empty = stands.empty };
          hands = stands.hands;
          slot_stands = subst (λ (x : Seat). SlotStands x (record_in t) ue.slot) (sym seat) (slot_stays s.seat (record_in s) (record_in t) ue.slot r.post tied.slot_is);
        };
        parity = parity_kept (record_in s) (record_in t) ue.parity r.rest.flips tied.parity_is;
      }

    module _ (r : Turned receive.Done) where
      done_at : (record_in t).stage ≡ Idle
      done_at = subst (λ (at : RecvStage). IsAtRecvStage t.seat (record_in t) d now (front_of inbox) at) r.means.0 stands.at

      done_by : (n : Next Local) → local_next ue.machine.local ≡ n → Turns (record ue { op = Receiving op }) s (done_recv n) t turn.Moved
      done_by (Recvs from head take_in refuse) is =
          let of = subst (IsRecvOf op) is of_next in
          let asked : length_asked (local_next ue.machine.local) ≡ head.len = ap (λ (n : Next Local). length_asked n) is in
          let bytes : List ℕ = take head.len inbox in
          let same : front_of ue.inbox ≡ bytes = sym r.means.1 ∙ ap (λ (len : ℕ). take len inbox) asked in
          let long : length bytes ≡ head.len = ap (λ (len : ℕ). length (take len inbox)) (sym asked) ∙ stands.long ∙ ap (λ (h : MessageHead). h.len) (r.same.1 ∙ of.1) in
          let calls : (record_in t).calls ≡ (record_in s).calls ++ Recv from head bytes ∷ [] =
          r.means.2 ∙ ap (λ (list : List DataCall). (record_in s).calls ++ list) (got_call op from head (front_of ue.inbox) of.0 of.1 of.2
          ∙ ap (λ (x : List ℕ). Recv from head x ∷ []) same) in
          record {
            tied = entered_tied (record ue { machine = record ue.machine { local = take_in bytes }; core = d; inbox = inbox }) t tied.last (begun_at ue.machine (take_in bytes) tied.begun)
                (ap (λ (x : Seat). x.setup) (seat receive.Done r) ∙ tied.setup_is) (ap (λ (x : Seat). x.rank) (seat receive.Done r) ∙ tied.rank_is)
                (stood_got (start_of_rank ue.machine.script ue.machine.rank) (record_in s) ue.machine.local tied.last (record_in t) tied.stood on from head take_in refuse bytes is long calls)
                (free receive.Done r done_at) (hands_kept (record_in s) (record_in t) r.rest.hold tied.hands) room tied.posted_is tied.target
                (sends_same (record_in s).calls (record_in t).calls _ ue.sent calls refl tied.sent_is)
                (bytes_same (record_in s).calls (record_in t).calls _ ue.sent_bytes calls refl tied.bytes_are);
            turned = turned_by (record ue { op = Receiving op }) s (done_recv (Recvs from head take_in refuse)) t turn.Moved r.events r.did r.does (refl, refl, refl) r.tried (λ spot same. absurd (cc)) tt (
              let most = entered_left (record ue { machine = record ue.machine { local = take_in bytes }; core = d; inbox = inbox }) (begun_at ue.machine (take_in bytes) tied.begun) in
                  let rest = falls ue.machine.setup ue.machine.rank ue.machine.local (Recvs from head take_in refuse) is bytes long in
                  let bound = ap (next_bound ue.machine.setup ue.machine.rank) is in
                  let less : slot_left ue.slot + rest_of ue.machine.setup ue.machine.rank (take_in bytes) < ue_left (record ue { op = Receiving op }) =
                  unless_below (is_stopped ue.machine.local) _ _ on (omega (arith, rest, bound)) in
                  omega (arith, most, less),
              not_over (record ue { op = Receiving op }) on (not_ended (local_next ue.machine.local) at_call),
              After (after_by ue.machine.local (take_in bytes) (Recvs from head take_in refuse) is (inl (bytes, refl))) refl,
            ) r.rest.heap (none_stored s.seat.setup ue.core r.events r.no_drafts) r.held;
          }
      done_by _ is = absurd (subst (IsRecvOf op) is of_next)

      pub recv_done : Turns (record ue { op = Receiving op }) s (done_recv (local_next ue.machine.local)) t turn.Moved
      recv_done = done_by (local_next ue.machine.local) refl

    module _ (sent : MessageHead) (r : Turned (receive.Mismatch sent)) where
      -- a message that is refused is untaken
      refused_at : (record_in t).stage ≡ Idle
      refused_at =
          let at = subst (λ (x : RecvStage). IsAtRecvStage s.seat (record_in s) ue.core op (front_of ue.inbox) x) r.means.2 tied.stands.0.at in
          r.means.3.stage ∙ at.1

      gone : (n m : ℕ) (b : Bool) → b ≡ true → 0 < m → unless b n < m
      gone n m true is some = some
      gone n m false is some = absurd (cc)

      refused_by : (n : Next Local) → local_next ue.machine.local ≡ n → Turns (record ue { op = Receiving op }) s (refused_recv n sent) t turn.Moved
      refused_by (Recvs from head take_in refuse) is =
          let of = subst (IsRecvOf op) is of_next in
          let other : sent ≢ head = λ same. r.means.4 (same ∙ sym of.1) in
          let calls = r.means.3.calls in
          record {
            tied = entered_tied (record ue { machine = record ue.machine { local = refuse sent }; core = d; inbox = inbox }) t tied.last (begun_at ue.machine (refuse sent) tied.begun)
                (ap (λ (x : Seat). x.setup) (seat (receive.Mismatch sent) r) ∙ tied.setup_is) (ap (λ (x : Seat). x.rank) (seat (receive.Mismatch sent) r) ∙ tied.rank_is)
                (stood_refused (start_of_rank ue.machine.script ue.machine.rank) (record_in s) ue.machine.local tied.last (record_in t) tied.stood on from head sent take_in refuse r.means.5 is other
                (subst (λ (j : ℕ). (record_in t).notes j ≡ Some r.means.5) of.0 r.means.6) r.means.7 calls)
                (free (receive.Mismatch sent) r refused_at) (hands_kept (record_in s) (record_in t) r.rest.hold tied.hands) room tied.posted_is tied.target
                (tied.sent_is ∙ ap (λ (list : List DataCall). capped_count (count_by is_send_call list)) (sym calls))
                (tied.bytes_are ∙ ap (λ (list : List DataCall). capped_count (sum_by bytes_sent list)) (sym calls));
            turned = turned_by (record ue { op = Receiving op }) s (refused_recv (Recvs from head take_in refuse) sent) t turn.Moved r.events r.did r.does (refl, refl, refl) r.tried (λ spot same. absurd (cc)) tt (
              gone _ _ (is_stopped (refuse sent)) (refused_stops ue.machine.local from head sent take_in refuse is) (unless_below (is_stopped ue.machine.local) 0 _ on (omega arith)),
              not_over (record ue { op = Receiving op }) on (not_ended (local_next ue.machine.local) at_call),
              After (after_by ue.machine.local (refuse sent) (Recvs from head take_in refuse) is (inr (sent, refl))) refl,
            ) r.rest.heap (none_stored s.seat.setup ue.core r.events r.no_drafts) r.held;
          }
      refused_by _ is = absurd (subst (IsRecvOf op) is of_next)

      pub recv_refused : Turns (record ue { op = Receiving op }) s (refused_recv (local_next ue.machine.local) sent) t turn.Moved
      recv_refused = refused_by (local_next ue.machine.local) refl
