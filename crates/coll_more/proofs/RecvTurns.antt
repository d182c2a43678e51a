-- A turn of a collective call that is in the midst of a receive.
use Rattle.std.proofs.Common.{◌≡◌, ◌⊎◌, ℕ, ◌+◌, ◌*◌, ◌<◌, ◌≤◌, Bool, true, false, cond, List, [], ◌∷◌, ◌++◌, length, take, drop, Some, slice_get, refl, sym, ap, ◌∙◌, subst, arith, inl, inr, append_assoc}
use Rattle.std.specs.List.{list_all}
use Rattle.scc_base.specs.Calls.{DataCall}
use Rattle.scc_base.specs.Calls.DataCall.{Recv}
use Rattle.scc_base.specs.Heads.{MessageHead, plain_head}
use Rattle.scc_base.specs.Setups.{SetupView}
use Rattle.scc_base.specs.declared.events.Event.{Event}
use Rattle.scc_base.specs.declared.events.Spot.{Spot}
use Rattle.scc_proto.specs.Ports.{Seat, Sight, record_in}
use Rattle.scc_proto.specs.Records.{chunk_of}
use Rattle.scc_proto.proofs.PortLaws.{seat_kept}
use Rattle.put_get.specs.Cores.{Private}
use Rattle.send_recv.specs.Ops.{RecvAt, SlotAt, is_received}
use Rattle.send_recv.specs.Receiving.{RecvStands, RecvTurned, recv_call, recv_left}
use Rattle.send_recv.specs.Turns.{StoresFromBuffer, is_no_draft}
use Rattle.send_recv.specs.declared.answers.RecvTurn.{RecvTurn}
use Rattle.send_recv.specs.declared.answers.RecvTurn.TheVariants as turn
use Rattle.send_recv.specs.Ranks.{receiving}
use Rattle.send_recv.proofs.Starts.{free_after_received, slot_after}
use Rattle.coll_more.specs.Ops.{HasOwn, MoreAt, Participant, bytes_by, data_by, data_call_of, ended_calls, is_taking, table_of, window, taking_part}
use Rattle.coll_more.specs.Standing.{IsFit, IsRecvOfPiece, MoreStands, Stands}
use Rattle.coll_more.specs.Tables.{dst_len_of, has_own, src_len_of}
use Rattle.coll_more.specs.Turns.{MoreTurns, left_from}
use Rattle.coll_more.specs.declared.kinds.PieceCall.{PieceCall}
use Rattle.coll_more.specs.declared.kinds.Way.{Way}
use Rattle.coll_more.specs.declared.kinds.Way.TheVariants.{Gives, Shares, Takes}
use Rattle.coll_more.specs.declared.ops.Stage.TheVariants.{Between, Receiving}
use Rattle.coll_more.proofs.GoodLemmas.{IsApart, IsGood, is_of_dst, later_after, rising_calls}
use Rattle.coll_more.proofs.ListLemmas.{next_taken, same_taken}
use Rattle.coll_more.proofs.TurnLemmas.{good_here, turned_by}
use Rattle.coll_more.proofs.WindowLemmas.{same_parts, window_back, window_front}

-- the call that is finished
got_call : (op : RecvAt) (from : ℕ) (head : MessageHead) (bytes : List ℕ) → op.from ≡ from → op.head ≡ head → is_received op.stage ≡ false → recv_call op bytes ≡ Recv from head bytes ∷ []
got_call op from head bytes at is on = λ i. cond (on i) [] (Recv (at i) (is i) bytes ∷ [])

got_data : (w : Way) (peer len first : ℕ) (src dst : List ℕ) → is_taking w ≡ true → Recv peer (plain_head len) (window first len dst) ≡ data_by w peer len (window first len (bytes_by w src dst))
got_data Gives peer len first src dst is = absurd (cc)
got_data Shares peer len first src dst is = absurd (cc)
got_data Takes peer len first src dst is = refl

-- a receive stores no word of a message
none_stored : (s : SetupView) (c : Private) (events : List Event) → list_all (is_no_draft s) events ≡ true → StoresFromBuffer s c events
none_stored s c events none = record { front = []; rest = events; is = refl; none_or_all = inl refl; no_draft = none }

-- bytes of dst that came before the change
old_bytes : (src dst later : List ℕ) (call y : PieceCall) (w : Way) → (is_of_dst w ≡ true → call.first + call.len ≤ y.first) → take y.first later ≡ take y.first dst
    → window call.first call.len (bytes_by w src dst) ≡ window call.first call.len (bytes_by w src later)
old_bytes src dst later call y Gives before same = refl
old_bytes src dst later call y Shares before same = sym (window_front dst later y.first call.first call.len (before refl) same)
old_bytes src dst later call y Takes before same = sym (window_front dst later y.first call.first call.len (before refl) same)

module _ (m : MoreAt) (s t : Sight) (c d : Private) (call : PieceCall) (op next : RecvAt) (slot : SlotAt) (src dst later : List ℕ) where
  -- the rank before the turn, after it, and after the turn that ends the message
  abbrev old : Participant
  old = taking_part s c (record m { stage = Receiving call op }) slot src dst

  abbrev now : Participant
  now = taking_part t d (record m { stage = Receiving call next }) slot src later

  abbrev past : Participant
  past = taking_part t d (record m { ended = m.ended + 1; stage = Between }) slot src later

  abbrev Turned : RecvTurn → Type 0
  Turned answer = RecvTurned (receiving s c op (window call.first call.len dst)) (receiving t d next (window call.first call.len later)) answer

  later_of : IsRecvOfPiece call op → (next.from ≡ op.from) × (next.head ≡ op.head) → is_received next.stage ≡ false → IsRecvOfPiece call next
  later_of of same unended = record { way = of.way; from = same.0 ∙ of.from; head = same.1 ∙ of.head; unended = unended }

  module _ (few : s.seat.setup.nue ≤ 48) (low : s.seat.rank < s.seat.setup.nue) (fit : Stands old)
      (there : RecvStands t d next (window call.first call.len later)) (long : length later ≡ length dst) (front : take call.first later ≡ take call.first dst)
      (afterwards : drop (call.first + call.len) later ≡ drop (call.first + call.len) dst) where
    here : IsRecvOfPiece call op
    here = fit.1.at.1

    good : IsGood s.seat.rank s.seat.setup.nue m.len (has_own m.more s.seat.rank) (src_len_of m.more s.seat.rank s.seat.setup.nue m.len) (dst_len_of m.more s.seat.rank s.seat.setup.nue m.len) call
    good = good_here m s c slot src dst few low call fit.1.at.0 fit.1.fits

    -- the calls that have ended keep their bytes
    kept_calls : ended_calls s.seat m src dst ≡ ended_calls s.seat m src later
    kept_calls = same_taken (data_call_of src dst) (data_call_of src later) (table_of s.seat m) m.ended (λ k x less at.
        ap (data_by x.way x.peer x.len) (old_bytes src dst later x call x.way
        (λ of. later_after 0 (table_of s.seat m) k m.ended x call (rising_calls m.len m.more s.seat.rank s.seat.setup.nue) at fit.1.at.0 less of here.way) front))

    -- and so does the own piece
    own_by : (own : Bool) → IsApart own s.seat.rank m.len call → own ≡ true → window (s.seat.rank * m.len) m.len later ≡ window (s.seat.rank * m.len) m.len dst
    own_by true apart is = by (apart here.way)
      where
        by : (call.first + call.len ≤ s.seat.rank * m.len) ⊎ (s.seat.rank * m.len + m.len ≤ call.first) → window (s.seat.rank * m.len) m.len later ≡ window (s.seat.rank * m.len) m.len dst
        by (inl under) = window_back dst later (call.first + call.len) (s.seat.rank * m.len) m.len under afterwards
        by (inr over) = window_front dst later call.first (s.seat.rank * m.len) m.len over front
    own_by false apart is = absurd (cc)

    kept_own : HasOwn m.more s.seat.rank m.len src dst → HasOwn m.more s.seat.rank m.len src later
    kept_own own has = own_by (has_own m.more s.seat.rank) good.apart has ∙ own has

    module _ (answer : RecvTurn) (r : Turned answer) where
      seat : t.seat ≡ s.seat
      seat = seat_kept s r.events t r.did

      fits_there : (old : IsFit m.more s.seat.rank s.seat.setup.nue m.len src dst) → IsFit m.more t.seat.rank t.seat.setup.nue m.len src later
      fits_there old =
          subst (λ (x : Seat). IsFit m.more x.rank x.setup.nue m.len src later) (sym seat) (record { short = old.short; src_is = old.src_is; dst_is = long ∙ old.dst_is })

      own_there : HasOwn m.more s.seat.rank m.len src dst → HasOwn m.more t.seat.rank m.len src later
      own_there old = subst (λ (x : Seat). HasOwn m.more x.rank m.len src later) (sym seat) (kept_own old)

      kept : is_received next.stage ≡ false → (record_in t).calls ≡ (record_in s).calls → (base : List DataCall) → MoreStands base old → MoreStands base now
      kept unended calls base st = record {
        fits = fits_there st.fits;
        calls = calls ∙ st.calls ∙ ap (λ (x : List DataCall). base ++ x) kept_calls ∙ ap (λ (x : Seat). base ++ ended_calls x m src later) (sym seat);
        own = λ is. own_there (st.own refl);
        at = (subst (λ (x : Seat). slice_get (table_of x m) m.ended ≡ Some call) (sym seat) st.at.0, later_of st.at.1 r.same unended, slot_after r.events r.did r.post st.at.2, there);
      }

    pub recv_moved : Turned turn.Moved → MoreTurns old now turn.Moved
    recv_moved r = record {
      stands = kept turn.Moved r r.means.3 r.means.1;
      turned = turned_by old now turn.Moved r.events r.did r.does r.tried r.freed (λ spot same. absurd (cc)) r.only (refl, refl)
          (less, refl) r.rest (none_stored s.seat.setup c r.events r.no_drafts) r.held;
    }
      where
        less : (1 + recv_left (chunk_of s.seat.setup) next) + left_from s.seat m (m.ended + 1) < (1 + recv_left (chunk_of s.seat.setup) op) + left_from s.seat m (m.ended + 1)
        less = let fewer = r.means.0 in omega (arith, fewer)

    pub recv_waited : (spot : Spot) → Turned (turn.Waiting spot) → MoreTurns old now (turn.Waiting spot)
    recv_waited spot r = record {
      stands = kept (turn.Waiting spot) r (ap (λ (x : RecvAt). is_received x.stage) r.means.0 ∙ here.unended) r.means.2.calls;
      turned = turned_by old now (turn.Waiting spot) r.events r.did r.does r.tried r.freed (λ at same. r.rests spot refl) r.only (refl, refl)
          (record { same_op = (λ i. record m { stage = Receiving call (r.means.0 i) }); same_slot = refl; same_dst = same_parts dst later call.first call.len front r.means.1 afterwards; rest = r.means.2 }, refl) r.rest (none_stored s.seat.setup c r.events r.no_drafts) r.held;
    }

    pub recv_refused : (sent : MessageHead) → Turned (turn.Mismatch sent) → MoreTurns old now (turn.Mismatch sent)
    recv_refused sent r = record {
      stands = kept (turn.Mismatch sent) r (ap (λ (x : RecvAt). is_received x.stage) r.means.0 ∙ here.unended) r.means.3.calls;
      turned = turned_by old now (turn.Mismatch sent) r.events r.did r.does r.tried r.freed (λ spot same. absurd (cc)) r.only (refl, refl)
          (record { same_op = (λ i. record m { stage = Receiving call (r.means.0 i) }); same_slot = refl; same_dst = same_parts dst later call.first call.len front r.means.1 afterwards; rest = r.means.3 }, refl, (r.means.2, λ same. r.means.4 (same ∙ sym here.head), r.means.5, subst (λ (j : ℕ). (record_in t).notes j ≡ Some r.means.5) here.from r.means.6, r.means.7)) r.rest (none_stored s.seat.setup c r.events r.no_drafts) r.held;
    }

    pub recv_done : Turned turn.Done → MoreTurns old past turn.Moved
    recv_done r = record {
      stands = λ base st. record {
        fits = fits_there turn.Done r st.fits;
        calls = more base st;
        own = λ is. own_there turn.Done r (st.own refl);
        at = free_after_received st.at.2 r there;
      };
      turned = turned_by old past turn.Moved r.events r.did r.does r.tried r.freed (λ spot same. absurd (cc)) r.only (refl, refl)
          (less, refl) r.rest (none_stored s.seat.setup c r.events r.no_drafts) r.held;
    }
      where
        less : left_from s.seat m (m.ended + 1) < (1 + recv_left (chunk_of s.seat.setup) op) + left_from s.seat m (m.ended + 1)
        less = omega arith

        got : recv_call op (window call.first call.len dst) ≡ data_call_of src later call ∷ []
        got =
            got_call op call.peer (plain_head call.len) (window call.first call.len dst) here.from here.head here.unended
            ∙ ap (λ (x : List ℕ). Recv call.peer (plain_head call.len) x ∷ []) (sym r.means.1)
            ∙ ap (λ (x : DataCall). x ∷ []) (got_data call.way call.peer call.len call.first src later here.way)

        more : (base : List DataCall) → MoreStands base old
            → (record_in t).calls ≡ base ++ ended_calls t.seat (record m { ended = m.ended + 1 }) src later
        more base st =
            r.means.2
            ∙ (λ i. (st.calls ∙ ap (λ (x : List DataCall). base ++ x) kept_calls) i ++ got i)
            ∙ append_assoc base (ended_calls s.seat m src later) (data_call_of src later call ∷ [])
            ∙ ap (λ (x : List DataCall). base ++ x) (sym (next_taken (data_call_of src later) (table_of s.seat m) m.ended call st.at.0))
            ∙ ap (λ (x : Seat). base ++ ended_calls x (record m { ended = m.ended + 1 }) src later) (sym (seat turn.Done r))
