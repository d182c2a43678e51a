-- A collective call at its end, at its start, and at another port.
use Rattle.std.proofs.Common.{◌≡◌, ℕ, zero, suc, ◌+◌, ◌*◌, ◌≤◌, true, List, [], ◌∷◌, ◌++◌, length, map, take, Option, Some, None, is_none, slice_get, refl, sym, ap, ◌∙◌, subst, arith, append-nil, sum_by}
use base.Stored.{Gv}
use Rattle.std.proofs.lemmas.List.Sums.{sum_by-cons}
use Rattle.scc_base.specs.Calls.{DataCall}
use Rattle.scc_base.specs.declared.layouts.Layout.{Layout}
use Rattle.scc_proto.specs.Ports.{Seat, Sight, record_in}
use Rattle.scc_proto.specs.Stages.{Record}
use Rattle.put_get.specs.Cores.{Private}
use Rattle.send_recv.specs.Calling.{IsBetweenMessages}
use Rattle.send_recv.specs.Ops.{SlotAt}
use Rattle.send_recv.specs.declared.answers.RecvTurn.TheVariants as turn
use Rattle.send_recv.proofs.OtherPort.{free_there, receive_there, send_there, slot_there}
use Rattle.sync_flags.specs.Turns.{at_port}
use Rattle.sync_flags.proofs.TurnLemmas.{record_at_port}
use Rattle.coll_more.specs.Ops.{MoreAt, bytes_of_piece, data_call_of, is_copied, new_more, table_of, window, taking_part}
use Rattle.coll_more.specs.Standing.{HasEnded, IsFit, MoreStands, StandsAt}
use Rattle.coll_more.specs.Turns.{MoreTurned, call_bound, is_over_by, more_left, piece_bound}
use Rattle.coll_more.specs.declared.kinds.More.{More}
use Rattle.coll_more.specs.declared.kinds.PieceCall.{PieceCall}
use Rattle.coll_more.specs.declared.ops.Stage.{Stage}
use Rattle.coll_more.specs.declared.ops.Stage.TheVariants.{Own, Between, Sending, Receiving}

-- ---- at its end

none_past : (o : Option PieceCall) → is_none o ≡ true → o ≡ None
none_past None is = refl
none_past (Some x) is = absurd (cc)

past_all : (xs : List PieceCall) (k : ℕ) → slice_get xs k ≡ None → take k xs ≡ xs
past_all [] zero none = refl
past_all [] (suc k) none = refl
past_all (x ∷ xs) zero none = absurd (cc)
past_all (x ∷ xs) (suc k) none = ap (λ (l : List PieceCall). x ∷ l) (past_all xs k none)

module _ (base : List DataCall) (s : Sight) (c : Private) (m : MoreAt) (slot : SlotAt) (src dst : List ℕ) where
  pub ended_by : (stage : Stage) → m.stage ≡ stage → is_over_by (table_of s.seat m) m.ended stage ≡ true → MoreStands base (taking_part s c m slot src dst) → HasEnded base (taking_part s c m slot src dst)
  ended_by Own is over st = absurd (cc)
  ended_by Between is over st = record {
    calls = st.calls ∙ ap (λ (xs : List PieceCall). base ++ map (data_call_of src dst) xs) (past_all (table_of s.seat m) m.ended (none_past (slice_get (table_of s.seat m) m.ended) over));
    own = st.own (ap is_copied is);
    no_call = subst (λ (x : Stage). StandsAt s c slot (table_of s.seat m) m.ended src dst x) is st.at;
  }
  ended_by (Sending call op) is over st = absurd (cc)
  ended_by (Receiving call op) is over st = absurd (cc)

  pub has_ended : (t : Sight) (d : Private) (now : MoreAt) (after : SlotAt) (later : List ℕ) → MoreStands base (taking_part s c m slot src dst) → MoreTurned (taking_part s c m slot src dst) (taking_part t d now after src later) turn.Done
      → HasEnded base (taking_part t d now after src later)
  has_ended t d now after later st r =
      subst (λ (x : Sight). HasEnded base (taking_part x d now after src later)) (sym r.means.3)
      (subst (λ (x : Private). HasEnded base (taking_part s x now after src later)) (sym r.means.4)
      (subst (λ (x : MoreAt). HasEnded base (taking_part s c x after src later)) (sym r.means.0)
      (subst (λ (x : SlotAt). HasEnded base (taking_part s c m x src later)) (sym r.means.1)
      (subst (λ (x : List ℕ). HasEnded base (taking_part s c m slot src x)) (sym r.means.2)
      (ended_by m.stage refl r.means.5 st)))))

-- ---- at its start

pub begins : (s : Sight) (c : Private) (slot : SlotAt) (more : More) (len : ℕ) (src dst : List ℕ) → IsBetweenMessages s c slot → IsFit more s.seat.rank s.seat.setup.nue len src dst
    → MoreStands (record_in s).calls (taking_part s c (new_more more len) slot src dst)
begins s c slot more len src dst free fits =
    record { fits = fits; calls = sym (append-nil (record_in s).calls); own = λ is. absurd (cc); at = (refl, free) }

all_bounds : (layout : Layout) (calls : List PieceCall) → sum_by (call_bound layout) calls ≡ sum_by (piece_bound layout) calls + 2 * length calls
all_bounds layout [] = refl
all_bounds layout (call ∷ calls) =
    let rest = all_bounds layout calls in
    let one = sum_by-cons (call_bound layout) call calls in
    let other = sum_by-cons (piece_bound layout) call calls in
    omega (arith, rest, one, other)

pub start_left : (seat : Seat) (more : More) (len : ℕ) (slot : SlotAt)
    → more_left seat (new_more more len) slot ≤ sum_by (piece_bound seat.setup.layout) (table_of seat (new_more more len)) + 2 * length (table_of seat (new_more more len)) + 2
start_left seat more len slot = let all = all_bounds seat.setup.layout (table_of seat (new_more more len)) in omega (arith, all)

-- ---- at another port

module _ (s : Sight) (m r : Gv) (h : ℕ) where
  at_there : (c : Private) (slot : SlotAt) (table : List PieceCall) (ended : ℕ) (src dst : List ℕ) (stage : Stage) → StandsAt s c slot table ended src dst stage
      → StandsAt (at_port s m r h) c slot table ended src dst stage
  at_there c slot table ended src dst Own st = (st.0, free_there s m r h c slot st.1)
  at_there c slot table ended src dst Between st = free_there s m r h c slot st
  at_there c slot table ended src dst (Sending call op) st = (st.0, st.1, send_there s m r h c op slot (bytes_of_piece call src dst) st.2)
  at_there c slot table ended src dst (Receiving call op) st = (st.0, st.1, slot_there s m r h slot st.2, receive_there s m r h c op (window call.first call.len dst) st.3)

  pub stands_there : (base : List DataCall) (c : Private) (op : MoreAt) (slot : SlotAt) (src dst : List ℕ) → MoreStands base (taking_part s c op slot src dst) → MoreStands base (taking_part (at_port s m r h) c op slot src dst)
  stands_there base c op slot src dst st = record {
    fits = st.fits;
    calls = ap (λ (rec : Record). rec.calls) (record_at_port s m r h) ∙ st.calls;
    own = st.own;
    at = at_there c slot (table_of s.seat op) op.ended src dst op.stage st.at;
  }
