-- Where a run begins, and what a sweep in which nobody moved leaves.
use Rattle.std.proofs.Common.{◌≡◌, ⊎_elim, inl, inr, ℕ, zero, suc, ◌<◌, ◌≤◌, ◌||◌, if◌then◌else◌, Bool, true, false, List, [], ◌∷◌, length, slice_index_or, None, refl, sym, ◌∙◌, ap, subst, arith}
use Rattle.std.proofs.lemmas.Bool.{cases_lt}
use Rattle.scc_base.specs.Setups.{SetupView, setup_key}
use Rattle.scc_base.specs.declared.events.Event.{Event}
use Rattle.scc_proto.specs.Agreement.{Agrees}
use Rattle.scc_proto.specs.Passed.{open_call, call_in_stage, passed_calls, slot_of}
use Rattle.scc_proto.specs.Ports.{record_in}
use Rattle.scc_proto.specs.Records.{chunk_of, record_of}
use Rattle.scc_proto.specs.Stages.{Idle}
use Rattle.scc_proto.specs.Views.{view_of}
use Rattle.scc_proto.specs.Words.{Memory}
use Rattle.scc_mesh.specs.Scenes.{ChipView, about_in, events_in, records_in}
use Rattle.send_recv.specs.Calling.{IsBetweenMessages}
use Rattle.send_recv.specs.Ops.{SlotAt}
use Rattle.send_recv.proofs.Starts.{free_at_start}
use Rattle.chip_run.specs.Crews.{AllRest, CrewGoesOn, IsCrew}
use Rattle.chip_run.specs.Turns.{RestsAt}
use Rattle.chip_run.specs.Waiting.{Waits}
use Rattle.chip_run.specs.Wants.{Want}
use Rattle.chip_run.proofs.LaterLaws.{later_keeps}
use Rattle.chip_run.proofs.WaitsLike.{waits_like}
use Rattle.coll_more.specs.Ops.{HasOwn, MoreAt, data_calls, taking_part}
use Rattle.coll_more.specs.Pieces.{HasMadeCall, pieces_for}
use Rattle.coll_more.specs.Standing.{HasEnded, IsFit, MoreStands}
use Rattle.coll_more.specs.Turns.{is_more_over}
use Rattle.coll_more.specs.declared.kinds.More.{More}
use Rattle.coll_more.specs.declared.ops.Stage.{Stage}
use Rattle.coll_more.specs.declared.ops.Stage.TheVariants.{Own, Between, Sending, Receiving}
use Rattle.coll_more.proofs.EndLemmas.{begins, ended_by}
use Rattle.coll_more.proofs.PieceLemmas.{pieces_there}
use Rattle.coll_run.specs.Resting.{AtEnd, HaveRested, Looks, Met, Rests, want_at}
use Rattle.coll_run.specs.Teams.{TeamHasEnded, IsFreshMember, IsFreshTeam, MemberStands, MemberView, seat_of, sight_of, srcs_of}
use Rattle.coll_run.specs.Workers.{IsTied, member_behaviour, member_seen, member_want}
use Rattle.coll_run.proofs.RestLemmas.{all_over, passed_is}

-- ---- before the first turn

-- a rank before its first turn stands where no event is
fresh_stands : (more : More) (len : ℕ) (m : MemberView) (s : SetupView) (rank : ℕ) (events : List Event) → IsFreshMember more len m → IsFit more rank s.nue len m.src m.dst → events ≡ []
    → MemberStands more len m s rank events
unfolding record_of record_in
fresh_stands more len m s rank events fresh fits none =
    subst (λ (es : List Event). MemberStands more len m s rank es) (sym none)
    (record {
      more_is = ap (λ (op : MoreAt). op.more) fresh.op;
      len_is = ap (λ (op : MoreAt). op.len) fresh.op;
      stands = subst (λ (op : MoreAt). MoreStands [] (taking_part (sight_of s rank []) m.core op m.slot m.src m.dst)) (sym fresh.op)
          (begins (sight_of s rank []) m.core m.slot more len m.src m.dst
          (subst (λ (slot : SlotAt). IsBetweenMessages (sight_of s rank []) m.core slot) (sym fresh.slot) (free_at_start (sight_of s rank []) m.core refl fresh.buffer)) fits);
      hands = λ core. refl;
    })

-- and in it, whatever the call is
fresh_tied : (more : More) (len : ℕ) (m : MemberView) (s : SetupView) (rank : ℕ) (events : List Event) → IsFreshMember more len m → IsFit more rank s.nue len m.src m.dst → events ≡ [] → IsTied m s rank events
fresh_tied more len m s rank events fresh fits none =
    let st = fresh_stands more len m s rank events fresh fits none in
    record {
      stands = record { more_is = refl; len_is = refl; stands = st.stands; hands = st.hands };
      met = λ is_met. absurd (let off = fresh.met in cc (is_met, off));
    }

pub team_at_start : (more : More) (len : ℕ) (chip : ChipView) (team : List MemberView) → IsFreshTeam more len chip team → IsCrew member_behaviour chip team
team_at_start more len chip team fresh = record {
  whole = fresh.whole;
  each = fresh.each;
  ties = λ k d low.
      fresh_tied more len (slice_index_or team k d) (about_in chip) k (events_in chip k) (fresh.fresh.fresh k d low) (fresh.fresh.fits k d low) (fresh.empty k (subst (λ (n : ℕ). k < n) fresh.each low));
}

-- ---- behind the last sweep

-- past the end of a list
past_entry : (xs : List MemberView) (k : ℕ) (d : MemberView) → length xs ≤ k → slice_index_or xs k d ≡ d
past_entry [] k d past = refl
past_entry (x ∷ xs) zero d past = absurd (omega (arith, past))
past_entry (x ∷ xs) (suc k) d past = past_entry xs k d (omega (arith, past))

-- a rank that wants nothing is at its end, or has met another head
wants_none : (over : Bool) (st : Stage) → (if false || over then Want.Nothing else want_at st) ≡ Want.Nothing → over ≡ true
wants_none true st is = refl
wants_none false Own is = absurd (cc (is))
wants_none false Between is = absurd (cc (is))
wants_none false (Sending call op) is = absurd (cc (is))
wants_none false (Receiving call op) is = absurd (cc (is))

module _ (more : More) (len : ℕ) (chip now : ChipView) (team later : List MemberView) (d : MemberView) (memory : Memory) (agrees : Agrees (about_in now) memory (records_in now))
    (fresh : IsFreshTeam more len chip team) (is : IsCrew member_behaviour now later) (goes : CrewGoesOn member_behaviour chip team now later) (rests : AllRest member_behaviour now later (length later)) where
  abbrev s : SetupView
  s = about_in now

  abbrev member : ℕ → MemberView
  member k = slice_index_or later k d

  within : (k : ℕ) → k < s.nue → k < length later
  within k low = subst (λ (n : ℕ). k < n) (sym is.each) low

  at_first : (k : ℕ) → k < s.nue → k < length team
  at_first k low = subst (λ (n : ℕ). k < n) goes.count (within k low)

  -- it is still the same call, of the same bytes
  same_more : (k : ℕ) → k < s.nue → (member k).op.more ≡ more
  same_more k low =
      later_keeps member_behaviour (λ (m : MemberView). m.op.more) (λ x y moves. moves.more) (λ x y stays. ap (λ (op : MoreAt). op.more) stays.op)
      (slice_index_or team k d) (member k) (goes.each k d (at_first k low))
      ∙ ap (λ (op : MoreAt). op.more) (fresh.fresh.fresh k d (at_first k low)).op

  same_len : (k : ℕ) → k < s.nue → (member k).op.len ≡ len
  same_len k low =
      later_keeps member_behaviour (λ (m : MemberView). m.op.len) (λ x y moves. moves.len) (λ x y stays. ap (λ (op : MoreAt). op.len) stays.op)
      (slice_index_or team k d) (member k) (goes.each k d (at_first k low))
      ∙ ap (λ (op : MoreAt). op.len) (fresh.fresh.fresh k d (at_first k low)).op

  same_srcs : (k : ℕ) → k < s.nue → (member k).src ≡ srcs_of team d k
  same_srcs k low =
      later_keeps member_behaviour (λ (m : MemberView). m.src) (λ x y moves. moves.src) (λ x y stays. stays.src) (slice_index_or team k d) (member k) (goes.each k d (at_first k low))

  same_all : (k : ℕ) → (member k).src ≡ srcs_of team d k
  same_all k =
      ⊎_elim
      (λ (low : k < s.nue). same_srcs k low)
      (λ (past : s.nue ≤ k).
      let each = is.each in
      let count = goes.count in
      ap (λ (m : MemberView). m.src) (past_entry later k d (omega (arith, past, each))) ∙ sym (ap (λ (m : MemberView). m.src) (past_entry team k d (omega (arith, past, each, count)))))
      (cases_lt k s.nue)

  stands_at : (k : ℕ) → k < s.nue → MemberStands more len (member k) s k (events_in now k)
  stands_at k low =
      let st = (is.ties k d (within k low)).stands in
      record { more_is = same_more k low; len_is = same_len k low; stands = st.stands; hands = st.hands }

  -- a rank that was not stopped has not met another head
  over_by : (k : ℕ) → (b : Bool) → (member k).met ≡ b → member_want s k (member k) ≡ Want.Nothing → (b ≡ true → Rests s memory (records_in now k) k (member k).op) → Rests s memory (records_in now k) k (member k).op
  over_by k true is_met ends met = met refl
  over_by k false not_met ends met =
      AtEnd (wants_none (is_more_over (seat_of s k) (member k).op) (member k).op.stage
      (subst (λ (b : Bool). (if b || is_more_over (seat_of s k) (member k).op then Want.Nothing else want_at (member k).op.stage) ≡ Want.Nothing) not_met ends))

  met_by : (k : ℕ) → k < s.nue → (member k).met ≡ true → Rests s memory (records_in now k) k (member k).op
  met_by k low is_met = let (sent, met) = (is.ties k d (within k low)).met is_met in Met sent met

  -- one that waits wants what comes next
  waits_by : (k : ℕ) (b : Bool) → Waits s (view_of s memory) k (records_in now k) (if b then Want.Nothing else want_at (member k).op.stage) → Waits s (view_of s memory) k (records_in now k) (want_at (member k).op.stage)
  waits_by k true waits = absurd waits
  waits_by k false waits = waits

  -- the looks are vain at the end of the sweep
  rests_by : (k : ℕ) → k < s.nue → (b : Bool) → RestsAt b s (records_in now) k (member_seen s k (member k)) → Rests s memory (records_in now k) k (member k).op
  rests_by k low true at = over_by k (member k).met refl at.over.ends (λ is_met. met_by k low is_met)
  rests_by k low false (inl at) = met_by k low at.stopped
  rests_by k low false (inr waits) =
      Looks (waits_by k ((member k).met || is_more_over (seat_of s k) (member k).op)
      (waits_like s waits.memory memory waits.records (records_in now) waits.agrees agrees waits.alike k low (member_want s k (member k)) waits.waits))

  rested : HaveRested more len s memory (events_in now) member
  rested = record {
    agrees = agrees;
    stands = λ k low. stands_at k low;
    rests = λ k low. let (b, at) = rests k d (within k low) in rests_by k low b at;
  }

  ended : (k : ℕ) → k < s.nue → HasEnded [] (taking_part (sight_of s k (events_in now k)) (member k).core (member k).op (member k).slot (member k).src (member k).dst)
  ended k low =
      let st = stands_at k low in
      ended_by [] (sight_of s k (events_in now k)) (member k).core (member k).op (member k).slot (member k).src (member k).dst (member k).op.stage refl
      (all_over more len s memory (events_in now) member rested k low) st.stands

  -- the calls, by the kind and the length of the run
  calls_are : (k : ℕ) → k < s.nue → (records_in now k).calls ≡ data_calls more k s.nue len (member k).src (member k).dst
  unfolding record_in
  calls_are k low =
      let st = stands_at k low in
      (ended k low).calls ∙ (λ i. data_calls (st.more_is i) k s.nue (st.len_is i) (member k).src (member k).dst)

  made : (k : ℕ) → k < s.nue → HasMadeCall more s.nue len k (member k).src (member k).dst (passed_calls s (records_in now) k)
  made k low =
      let st = stands_at k low in
      let fits : IsFit more k s.nue len (member k).src (member k).dst = subst (λ (m : More). IsFit m k s.nue len (member k).src (member k).dst) st.more_is
      (subst (λ (n : ℕ). IsFit (member k).op.more k s.nue n (member k).src (member k).dst) st.len_is st.stands.fits) in
      record {
        calls_are = passed_is more len s memory (events_in now) member rested k low ∙ calls_are k low;
        src_is = fits.src_is;
        dst_is = fits.dst_is;
        own = subst (λ (m : More). HasOwn m k len (member k).src (member k).dst) st.more_is
            (subst (λ (n : ℕ). HasOwn (member k).op.more k n (member k).src (member k).dst) st.len_is (ended k low).own);
      }

  pieces : (k : ℕ) → k < s.nue → (member k).dst ≡ pieces_for more s.nue len (srcs_of team d) k
  pieces k low =
      pieces_there s.nue len (setup_key s) (passed_calls s (records_in now)) (slot_of s (records_in now)) (λ j. (member j).src) (λ j. (member j).dst) agrees.calls more made k low
      ∙ (λ i. pieces_for more s.nue len (λ j. same_all j i) k)

  none_open : (k : ℕ) → k < s.nue → open_call s (records_in now k) ≡ None
  unfolding record_in
  none_open k low = ap (call_in_stage (chunk_of s)) (ended k low).no_call.between.stage

  idle : (k : ℕ) → k < s.nue → (records_in now k).stage ≡ Idle
  unfolding record_in
  idle k low = (ended k low).no_call.between.stage

  same_nue : (about_in now).nue ≡ (about_in chip).nue
  same_nue = ap (λ (x : SetupView). x.nue) goes.about

  below : (k : ℕ) → k < length team → k < s.nue
  below k low = let count = goes.count in let each = is.each in omega (arith, low, count, each)

  pieces_now : (k : ℕ) → k < length team → (member k).dst ≡ pieces_for more (about_in chip).nue len (srcs_of team d) k
  pieces_now k low = pieces k (below k low) ∙ ap (λ (n : ℕ). pieces_for more n len (srcs_of team d) k) same_nue

  calls_now : (k : ℕ) → k < length team → (records_in now k).calls ≡ data_calls more k (about_in chip).nue len (srcs_of team d k) (pieces_for more (about_in chip).nue len (srcs_of team d) k)
  calls_now k low =
      calls_are k (below k low)
      ∙ (λ i. data_calls more k (same_nue i) len (same_all k i) (pieces_now k low i))

module _ (more : More) (len : ℕ) (chip now : ChipView) (team later : List MemberView) (memory : Memory) (agrees : Agrees (about_in now) memory (records_in now))
    (fresh : IsFreshTeam more len chip team) (is : IsCrew member_behaviour now later) (goes : CrewGoesOn member_behaviour chip team now later) (rests : AllRest member_behaviour now later (length later)) where
  some_at : (xs : List MemberView) (k : ℕ) → k < length xs → MemberView
  some_at [] k low = absurd (omega (arith, low))
  some_at (x ∷ xs) k low = x

  pub have_ended : TeamHasEnded more len chip team now later
  have_ended = record {
    about = goes.about;
    whole = is.whole;
    count = goes.count;
    pieces = λ k d low. pieces_now more len chip now team later d memory agrees fresh is goes rests k low;
    calls = λ k d low. calls_now more len chip now team later d memory agrees fresh is goes rests k low;
    none_open = λ k low. none_open more len chip now team later (some_at team k low) memory agrees fresh is goes rests k
        (below more len chip now team later (some_at team k low) memory agrees fresh is goes rests k low);
    idle = λ k low. idle more len chip now team later (some_at team k low) memory agrees fresh is goes rests k
        (below more len chip now team later (some_at team k low) memory agrees fresh is goes rests k low);
  }
