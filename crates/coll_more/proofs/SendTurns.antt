-- A turn of a collective call that is in the midst of a send.
use Rattle.std.proofs.Common.{◌≡◌, ℕ, ◌+◌, ◌<◌, false, cond, List, [], ◌∷◌, ◌++◌, Some, slice_get, refl, sym, ap, ◌∙◌, subst, arith, append_assoc}
use Rattle.scc_base.specs.Calls.{DataCall}
use Rattle.scc_base.specs.Calls.DataCall.{Send, Post}
use Rattle.scc_base.specs.Heads.{MessageHead, plain_head}
use Rattle.scc_base.specs.declared.events.Spot.{Spot}
use Rattle.scc_base.specs.declared.events.Turn.{Turn}
use Rattle.scc_base.specs.declared.events.Turn.TheVariants as turn
use Rattle.scc_proto.specs.Ports.{Seat, Sight, record_in}
use Rattle.scc_proto.specs.Records.{chunk_of}
use Rattle.scc_proto.proofs.PortLaws.{seat_kept}
use Rattle.put_get.specs.Cores.{Private}
use Rattle.send_recv.specs.Ops.{SendAt, SlotAt, is_sent}
use Rattle.send_recv.specs.Sending.{SendStands, SendTurned, send_call, send_left}
use Rattle.send_recv.specs.declared.answers.RecvTurn.TheVariants as receive
use Rattle.send_recv.specs.Ranks.{sending}
use Rattle.send_recv.proofs.Starts.{free_after_sent}
use Rattle.coll_more.specs.Ops.{HasOwn, MoreAt, Participant, bytes_of_piece, data_by, data_call_of, ended_calls, is_taking, table_of, taking_part}
use Rattle.coll_more.specs.Standing.{IsFit, IsSendOfPiece, MoreStands, Stands}
use Rattle.coll_more.specs.Turns.{MoreTurns, left_from}
use Rattle.coll_more.specs.declared.kinds.PieceCall.{PieceCall}
use Rattle.coll_more.specs.declared.kinds.Way.{Way}
use Rattle.coll_more.specs.declared.kinds.Way.TheVariants.{Gives, Shares, Takes}
use Rattle.coll_more.specs.declared.ops.Stage.TheVariants.{Between, Sending}
use Rattle.coll_more.proofs.ListLemmas.{next_taken}
use Rattle.coll_more.proofs.TurnLemmas.{turned_by}

-- the call that is finished
sent_call : (op : SendAt) (to : ℕ) (head : MessageHead) (bytes : List ℕ) → op.to ≡ to → op.head ≡ head → op.posted ≡ false → is_sent op.stage ≡ false → send_call op bytes ≡ Send to head bytes ∷ []
sent_call op to head bytes at is posted on = λ i. cond (on i) [] (cond (posted i) (Post (at i) (is i) bytes ∷ []) (Send (at i) (is i) bytes ∷ []))

sent_data : (w : Way) (peer len : ℕ) (bytes : List ℕ) → is_taking w ≡ false → Send peer (plain_head len) bytes ≡ data_by w peer len bytes
sent_data Gives peer len bytes is = refl
sent_data Shares peer len bytes is = refl
sent_data Takes peer len bytes is = absurd (cc)

module _ (m : MoreAt) (s t : Sight) (c d : Private) (call : PieceCall) (op next : SendAt) (slot after : SlotAt) (src dst : List ℕ) where
  -- the rank before the turn, after it, and after the turn that ends the message
  abbrev old : Participant
  old = taking_part s c (record m { stage = Sending call op }) slot src dst

  abbrev now : Participant
  now = taking_part t d (record m { stage = Sending call next }) after src dst

  abbrev past : Participant
  past = taking_part t d (record m { ended = m.ended + 1; stage = Between }) after src dst

  abbrev Turned : Turn → Type 0
  Turned answer = SendTurned (sending s c op slot (bytes_of_piece call src dst)) (sending t d next after (bytes_of_piece call src dst)) answer

  later_of : IsSendOfPiece call op → (next.to ≡ op.to) × (next.head ≡ op.head) × (next.posted ≡ op.posted) → is_sent next.stage ≡ false → IsSendOfPiece call next
  later_of of same unended = record { way = of.way; to = same.0 ∙ of.to; head = same.1 ∙ of.head; plain = same.2 ∙ of.plain; unended = unended }

  module _ (fit : Stands old) (there : SendStands t d next after (bytes_of_piece call src dst)) where
    here : IsSendOfPiece call op
    here = fit.1.at.1

    module _ (answer : Turn) (r : Turned answer) where
      seat : t.seat ≡ s.seat
      seat = seat_kept s r.events t r.did

      fits_there : (old : IsFit m.more s.seat.rank s.seat.setup.nue m.len src dst) → IsFit m.more t.seat.rank t.seat.setup.nue m.len src dst
      fits_there old = subst (λ (x : Seat). IsFit m.more x.rank x.setup.nue m.len src dst) (sym seat) old

      own_there : HasOwn m.more s.seat.rank m.len src dst → HasOwn m.more t.seat.rank m.len src dst
      own_there old = subst (λ (x : Seat). HasOwn m.more x.rank m.len src dst) (sym seat) old

      kept : is_sent next.stage ≡ false → (record_in t).calls ≡ (record_in s).calls → (base : List DataCall) → MoreStands base old → MoreStands base now
      kept unended calls base st = record {
        fits = fits_there st.fits;
        calls = calls ∙ st.calls ∙ ap (λ (x : Seat). base ++ ended_calls x m src dst) (sym seat);
        own = λ is. own_there (st.own refl);
        at = (subst (λ (x : Seat). slice_get (table_of x m) m.ended ≡ Some call) (sym seat) st.at.0, later_of st.at.1 r.same unended, there);
      }

    pub send_moved : Turned turn.Moved → MoreTurns old now receive.Moved
    send_moved r = record {
      stands = kept turn.Moved r r.means.3 r.means.1;
      turned = turned_by old now receive.Moved r.events r.did r.does r.tried r.freed (λ spot same. absurd (cc)) r.only (refl, refl)
          (less, refl) r.rest r.drafts r.held;
    }
      where
        less : (1 + send_left s.seat.setup.layout (chunk_of s.seat.setup) next after) + left_from s.seat m (m.ended + 1)
            < (1 + send_left s.seat.setup.layout (chunk_of s.seat.setup) op slot) + left_from s.seat m (m.ended + 1)
        less = let fewer = r.means.0 in omega (arith, fewer)

    pub send_waited : (spot : Spot) → Turned (turn.Waiting spot) → MoreTurns old now (receive.Waiting spot)
    send_waited spot r = record {
      stands = kept (turn.Waiting spot) r (ap (λ (x : SendAt). is_sent x.stage) r.means.0 ∙ here.unended) r.means.2.calls;
      turned = turned_by old now (receive.Waiting spot) r.events r.did r.does r.tried r.freed (λ at same. r.rests spot refl) r.only (refl, refl)
          (record { same_op = (λ i. record m { stage = Sending call (r.means.0 i) }); same_slot = r.means.1; same_dst = refl; rest = r.means.2 }, refl) r.rest r.drafts r.held;
    }

    pub send_done : Turned turn.Done → MoreTurns old past receive.Moved
    send_done r = record {
      stands = λ base st. record {
        fits = fits_there turn.Done r st.fits;
        calls = more base st;
        own = λ is. own_there turn.Done r (st.own refl);
        at = free_after_sent r there;
      };
      turned = turned_by old past receive.Moved r.events r.did r.does r.tried r.freed (λ spot same. absurd (cc)) r.only (refl, refl)
          (less, refl) r.rest r.drafts r.held;
    }
      where
        less : left_from s.seat m (m.ended + 1) < (1 + send_left s.seat.setup.layout (chunk_of s.seat.setup) op slot) + left_from s.seat m (m.ended + 1)
        less = omega arith

        more : (base : List DataCall) → MoreStands base old
            → (record_in t).calls ≡ base ++ ended_calls t.seat (record m { ended = m.ended + 1 }) src dst
        more base st =
            r.means.2
            ∙ (λ i. st.calls i ++ (sent_call op call.peer (plain_head call.len) (bytes_of_piece call src dst) here.to here.head here.plain here.unended ∙ ap (λ (x : DataCall). x ∷ []) (sent_data call.way call.peer call.len (bytes_of_piece call src dst) here.way)) i)
            ∙ append_assoc base (ended_calls s.seat m src dst) (data_call_of src dst call ∷ [])
            ∙ ap (λ (x : List DataCall). base ++ x) (sym (next_taken (data_call_of src dst) (table_of s.seat m) m.ended call st.at.0))
            ∙ ap (λ (x : Seat). base ++ ended_calls x (record m { ended = m.ended + 1 }) src dst) (sym (seat turn.Done r))
