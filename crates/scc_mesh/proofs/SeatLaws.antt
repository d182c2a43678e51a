-- A seat's view is cut in two, and two seats become one.
use Rattle.std.proofs.Common.{◌≡◌, ◌≢◌, ◌⊎◌, inl, inr, ℕ, ◌<◌, ◌==◌, if◌then◌else◌, List, [], ◌∷◌, ◌++◌, length, slice_set, Some, None, sym, ◌∙◌, ap, subst, arith}
use Rattle.std.proofs.lemmas.Bool.Decides.{nat_tests}
use mathlib.Core.Option.{some}
use lib.ListN.{get_elem?}
use Rattle.std.proofs.lemmas.List.{length-set}
use Rattle.atomic_table.specs.Table.{Splits, Joins}
use Rattle.scc_base.specs.Setups.{SetupView}
use Rattle.scc_base.specs.declared.events.Event.{Event}
use Rattle.scc_proto.specs.Tables.{table_with}
use Rattle.scc_proto.proofs.Tests.{same_or_other, put_here, put_there}
use Rattle.scc_mesh.specs.SeatViews.{SeatView, events_of_rank, list_at, IsKnown, without, lone_view, joined_seats}
use Rattle.scc_mesh.specs.Keeping.{IsSeatOf, Kept, KeepsRule}
use Rattle.scc_mesh.proofs.ViewLemmas.{known_within, known_here, known_there, elem_set, elem_push, alone_here, alone_there, joined_knows}

-- ---- a rank goes into a seat of its own

module _ (s : SetupView) (words : List ℕ) (views : List SeatView) (kept : Kept s words views) (id : ℕ) (v : SeatView) (at_id : get_elem? views id ≡ some v) (r : ℕ) (here : IsKnown v r) where
  abbrev split_owner : ℕ → ℕ
  split_owner = table_with kept.owner r (length views)

  not_owned : (seat q : ℕ) (events : List Event) → seat ≢ id → IsSeatOf s kept.owner kept.lists seat q events → q ≢ r
  not_owned seat q events ne of_seat q_is = ne (sym of_seat.owns ∙ ap kept.owner q_is ∙ (kept.suits id v at_id r (list_at v r) here).owns)

  still_seat : (seat q : ℕ) (events : List Event) → q ≢ r → IsSeatOf s kept.owner kept.lists seat q events → IsSeatOf s split_owner kept.lists seat q events
  still_seat seat q events ne old = record { owns = put_there kept.owner r (length views) q ne ∙ old.owns; list = old.list; below = old.below }

  left_seat : (q : ℕ) (events : List Event) → events_of_rank (without v r) q ≡ Some events → IsSeatOf s split_owner kept.lists id q events
  left_seat q events is = same_or_other (IsSeatOf s split_owner kept.lists id q events) q r
      (λ t q_is.
      let gone : events_of_rank (without v r) r ≡ None = known_here v r None (known_within v r (list_at v r) here) in
      let there : events_of_rank (without v r) r ≡ Some events = subst (λ k. events_of_rank (without v r) k ≡ Some events) q_is is in
      absurd (cc (gone, there)))
      (λ t ne. still_seat id q events ne (kept.suits id v at_id q events (sym (known_there v r None q ne) ∙ is)))

  right_seat : (q : ℕ) (events : List Event) → events_of_rank (lone_view r (events_of_rank v r)) q ≡ Some events → IsSeatOf s split_owner kept.lists (length views) q events
  right_seat q events is = same_or_other (IsSeatOf s split_owner kept.lists (length views) q events) q r
      (λ t q_is.
      let found : events_of_rank v r ≡ Some events = sym (alone_here r (events_of_rank v r)) ∙ subst (λ k. events_of_rank (lone_view r (events_of_rank v r)) k ≡ Some events) q_is is in
      let old = kept.suits id v at_id r events found in
      subst (λ k. IsSeatOf s split_owner kept.lists (length views) k events) (sym q_is) (record { owns = put_here kept.owner r (length views); list = old.list; below = old.below }))
      (λ t ne. absurd (cc (alone_there r (events_of_rank v r) q ne, is)))

  split_seats : (seat : ℕ) (w : SeatView) → get_elem? (slice_set views id (without v r) ++ lone_view r (events_of_rank v r) ∷ []) seat ≡ some w → (q : ℕ) (events : List Event) → events_of_rank w q ≡ Some events
      → IsSeatOf s split_owner kept.lists seat q events
  split_seats seat w is_at q events is = or (elem_push (slice_set views id (without v r)) (lone_view r (events_of_rank v r)) seat w is_at)
    where
      old_seat : ((seat ≡ id) × (w ≡ without v r)) ⊎ ((seat ≢ id) × (get_elem? views seat ≡ some w)) → IsSeatOf s split_owner kept.lists seat q events
      old_seat (inl own) = subst (λ k. IsSeatOf s split_owner kept.lists k q events) (sym own.0) (left_seat q events (subst (λ (x : SeatView). events_of_rank x q ≡ Some events) own.1 is))
      old_seat (inr other) = let old = kept.suits seat w other.1 q events is in still_seat seat q events (not_owned seat q events other.0 old) old

      or : ((seat ≡ length (slice_set views id (without v r))) × (w ≡ lone_view r (events_of_rank v r))) ⊎ ((seat < length (slice_set views id (without v r))) × (get_elem? (slice_set views id (without v r)) seat ≡ some w))
          → IsSeatOf s split_owner kept.lists seat q events
      or (inl new) = subst (λ k. IsSeatOf s split_owner kept.lists k q events) (sym (new.0 ∙ length-set views id (without v r)))
          (right_seat q events (subst (λ (x : SeatView). events_of_rank x q ≡ Some events) new.1 is))
      or (inr old) = old_seat (elem_set views id (without v r) seat w old.1)

  kept_split : Kept s words (slice_set views id (without v r) ++ lone_view r (events_of_rank v r) ∷ [])
  kept_split = record { valid = kept.valid; count = kept.count; owner = split_owner; lists = kept.lists; together = kept.together; suits = split_seats }

pub split_keeps : {S : Type 0} (s : SetupView) (id : ℕ) (v : SeatView) (r : ℕ) → IsKnown v r → Splits {S = S} (KeepsRule s) id v (without v r) (lone_view r (events_of_rank v r))
split_keeps s id v r here table kept at_id = kept_split s table.words table.views kept id v at_id r here

-- ---- a seat takes in another one

module _ (s : SetupView) (words : List ℕ) (views : List SeatView) (kept : Kept s words views) (id : ℕ) (v : SeatView) (at_id : get_elem? views id ≡ some v) (other : ℕ) (apart : other ≢ id) (w : SeatView)
    (at_other : get_elem? views other ≡ some w) where
  abbrev join_owner : ℕ → ℕ
  join_owner q = if kept.owner q == other then id else kept.owner q

  owner_taken : (q : ℕ) → kept.owner q ≡ other → join_owner q ≡ id
  owner_taken q is = grind (arith, nat_tests)

  owner_left : (q : ℕ) → kept.owner q ≢ other → join_owner q ≡ kept.owner q
  owner_left q ne = grind (arith, nat_tests)

  joined_seat : (q : ℕ) (events : List Event) → events_of_rank (joined_seats v w) q ≡ Some events → IsSeatOf s join_owner kept.lists id q events
  joined_seat q events is = or (joined_knows v w q events is)
    where
      or : (events_of_rank w q ≡ Some events) ⊎ (events_of_rank v q ≡ Some events) → IsSeatOf s join_owner kept.lists id q events
      or (inl new) = let old = kept.suits other w at_other q events new in record { owns = owner_taken q old.owns; list = old.list; below = old.below }
      or (inr own) =
          let old = kept.suits id v at_id q events own in
          record { owns = owner_left q (λ e. apart (sym e ∙ old.owns)) ∙ old.owns; list = old.list; below = old.below }

  join_seats : (seat : ℕ) (x : SeatView) → get_elem? (slice_set (slice_set views id (joined_seats v w)) other []) seat ≡ some x → (q : ℕ) (events : List Event) → events_of_rank x q ≡ Some events
      → IsSeatOf s join_owner kept.lists seat q events
  join_seats seat x is_at q events is = or (elem_set (slice_set views id (joined_seats v w)) other [] seat x is_at)
    where
      old_seat : seat ≢ other → ((seat ≡ id) × (x ≡ joined_seats v w)) ⊎ ((seat ≢ id) × (get_elem? views seat ≡ some x)) → IsSeatOf s join_owner kept.lists seat q events
      old_seat ne (inl own) = subst (λ k. IsSeatOf s join_owner kept.lists k q events) (sym own.0) (joined_seat q events (subst (λ (y : SeatView). events_of_rank y q ≡ Some events) own.1 is))
      old_seat ne (inr third) =
          let old = kept.suits seat x third.1 q events is in
          record { owns = owner_left q (λ e. ne (sym old.owns ∙ e)) ∙ old.owns; list = old.list; below = old.below }

      spent : x ≡ [] → IsSeatOf s join_owner kept.lists seat q events
      spent none = absurd (cc (subst (λ (y : SeatView). events_of_rank y q ≡ Some events) none is))

      or : ((seat ≡ other) × (x ≡ [])) ⊎ ((seat ≢ other) × (get_elem? (slice_set views id (joined_seats v w)) seat ≡ some x)) → IsSeatOf s join_owner kept.lists seat q events
      or (inl gone) = spent gone.1
      or (inr old) = old_seat old.0 (elem_set views id (joined_seats v w) seat x old.1)

  kept_joined : Kept s words (slice_set (slice_set views id (joined_seats v w)) other [])
  kept_joined = record { valid = kept.valid; count = kept.count; owner = join_owner; lists = kept.lists; together = kept.together; suits = join_seats }

pub join_keeps : {S : Type 0} (s : SetupView) (id : ℕ) (v : SeatView) (other : ℕ) (w : SeatView) → Joins {S = S} (KeepsRule s) id v other w (joined_seats v w) []
join_keeps s id v other w table kept at_id apart at_other = kept_joined s table.words table.views kept id v at_id other apart w
    (or (elem_set table.views id (joined_seats v w) other w at_other))
  where
    or : ((other ≡ id) × (w ≡ joined_seats v w)) ⊎ ((other ≢ id) × (get_elem? table.views other ≡ some w)) → get_elem? table.views other ≡ some w
    or (inl same) = absurd (apart same.0)
    or (inr is) = is.1
