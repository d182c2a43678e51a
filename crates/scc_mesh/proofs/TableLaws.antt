-- The rule of the chip's table: it holds at the start, and each kind of step keeps it.
use Rattle.std.proofs.Common.{◌≡◌, ◌≢◌, ◌⊎◌, inl, inr, ℕ, zero, suc, ◌<◌, List, [], ◌∷◌, ◌++◌, length, slice_index, slice_set, Contains, Some, refl, sym, ◌∙◌, ap, subst, arith}
use mathlib.Core.Option.{some}
use lib.ListN.{get_elem?}
use Rattle.std.proofs.lemmas.List.Elements.{Contains-append_left, Contains-push_cases}
use Rattle.scc_base.specs.Places.{WordAt}
use Rattle.scc_base.specs.Events.{IsEvent, load_of, store_of}
use Rattle.scc_base.specs.Setups.{SetupView, IsSetup}
use Rattle.scc_base.specs.declared.events.Event.{Event}
use Rattle.scc_proto.specs.Tables.{table_with}
use Rattle.scc_proto.specs.Stages.{Record}
use Rattle.scc_proto.specs.Words.{Memory, zeros, word_at, IsStep, memory_after, SameWords, Role, HeapWord, role_of}
use Rattle.scc_proto.specs.Records.{IsPermitted, IsHonest, record_of}
use Rattle.scc_proto.specs.Soundness.{IsSound}
use Rattle.scc_proto.specs.Agreement.{WordAgrees, Agrees}
use Rattle.scc_proto.proofs.Tests.{same_or_other, put_here, put_there}
use Rattle.scc_proto.proofs.PortLaws.{record_of-nil}
use Rattle.scc_proto.proofs.Agreement.StartLaw.{agrees_at_start}
use Rattle.scc_proto.proofs.Agreement.EventLaw.{agrees_same}
use Rattle.scc_proto.proofs.Agreement.AgreementLaw.{OneMore, lists_kept}
use Rattle.scc_proto.proofs.Agreement.SoundLaw.{sound_law}
use Rattle.scc_proto.proofs.Words.HeapLaw.{heap_listed}
use Rattle.scc_proto.proofs.Agreement.HonestLaw.{told_law}
use Rattle.scc_proto.specs.Memories.{memory_of}
use Rattle.scc_mesh.specs.SeatViews.{SeatView, events_of_rank, list_or_none, list_at, IsKnown, with_event, newcomer}
use Rattle.scc_mesh.specs.Keeping.{records_by, IsStoredAt, HeapIsTold, Together, IsSeatOf, Kept, Knows, Made}
use Rattle.scc_proto.proofs.Words.MemoryLemmas.{words_at_start, same_words}
use Rattle.scc_mesh.proofs.ViewLemmas.{known_within, known_here, known_there, is_known, newcomer_known, elem_set}

-- ---- making the table

module _ (s : SetupView) (words : List ℕ) (clear : (k : ℕ) → slice_index words k ≡ 0) where
  agree_at_start : Agrees s (memory_of words) (records_by s (λ r. []))
  agree_at_start = agrees_same s zeros (memory_of words) (records_by s (λ r. [])) (words_at_start words clear)
      (subst (λ (x : ℕ → Record). Agrees s zeros x) (λ i r. sym (record_of-nil s r) i) (agrees_at_start s))

  first_seat : (seat : ℕ) (v : SeatView) → get_elem? (newcomer s ∷ []) seat ≡ some v → (r : ℕ) (events : List Event) → events_of_rank v r ≡ Some events → IsSeatOf s (λ q. 0) (λ q. []) seat r events
  first_seat zero v is_at r events is =
      let same : newcomer s ≡ v = cc (is_at) in
      let k = newcomer_known s r events (subst (λ (x : SeatView). events_of_rank x r ≡ Some events) (sym same) is) in
      record { owns = refl; list = sym k.0; below = k.1 }
  first_seat (suc n) v is_at r events is = absurd (cc (is_at))

  pub kept_at_start : IsSetup s → length words ≡ 49200 → Kept s words (newcomer s ∷ [])
  kept_at_start valid long = record {
    valid = valid;
    count = long;
    owner = λ r. 0;
    lists = λ r. [];
    together = record { agree = agree_at_start; beyond = λ r out. refl; heap = λ r place value role has. absurd (omega (arith, has.1)) };
    suits = first_seat;
  }

-- ---- a step with one event

module _ (s : SetupView) (words now : List ℕ) (views : List SeatView) (kept : Kept s words views) (id : ℕ) (v : SeatView) (at_id : get_elem? views id ≡ some v) (r : ℕ) (here : IsKnown v r)
    (e : Event) (event : IsEvent e) (step : IsStep (memory_of words) e) (may : IsPermitted s r (record_of s r (list_at v r)) e) (long : length now ≡ 49200)
    (same : SameWords (memory_after (memory_of words) e) (memory_of now)) where
  own_seat : IsSeatOf s kept.owner kept.lists id r (list_at v r)
  own_seat = kept.suits id v at_id r (list_at v r) here

  abbrev later : ℕ → List Event
  later = table_with kept.lists r (list_at v r ++ e ∷ [])

  own_later : later r ≡ list_at v r ++ e ∷ []
  own_later = put_here kept.lists r (list_at v r ++ e ∷ [])

  other_later : (q : ℕ) → q ≢ r → later q ≡ kept.lists q
  other_later q ne = put_there kept.lists r (list_at v r ++ e ∷ []) q ne

  more : OneMore r e kept.lists later
  more = record { own = own_later ∙ (λ i. sym own_seat.list i ++ e ∷ []); others = other_later }

  agree_after : (late : Memory) → SameWords (memory_after (memory_of words) e) late → Agrees s late (records_by s later)
  agree_after late is = lists_kept s kept.valid (memory_of words) late kept.lists later r e kept.together.agree own_seat.below event step
      (subst (λ (l : List Event). IsPermitted s r (record_of s r l) e) (sym own_seat.list) may) is more

  still_there : (q : ℕ) (x : Event) → Contains (kept.lists q) x → Contains (later q) x
  still_there q x has = same_or_other (Contains (later q) x) q r
      (λ t q_is. subst (λ k. Contains (later k) x) (sym q_is) (subst (λ (l : List Event). Contains l x) (sym more.own)
      (Contains-append_left (kept.lists r) (e ∷ []) x (subst (λ k. Contains (kept.lists k) x) q_is has))))
      (λ t ne. subst (λ (l : List Event). Contains l x) (sym (other_later q ne)) has)

  stored_still : (place : WordAt) (value : ℕ) → (value ≡ 0) ⊎ IsStoredAt kept.lists place value → (value ≡ 0) ⊎ IsStoredAt later place value
  stored_still place value (inl none) = inl none
  stored_still place value (inr is) = inr (record { by = is.by; stored = still_there is.by (store_of place value) is.stored })

  module _ (place : WordAt) (value : ℕ) (is : load_of place value ≡ e) (role : role_of s place ≡ HeapWord) where
    read : word_at (memory_of words) place ≡ value
    read = subst (λ (x : Event). IsStep (memory_of words) x) (sym is) step

    was_stored : WordAgrees s place (word_at (memory_of words) place) (records_by s kept.lists) HeapWord → (value ≡ 0) ⊎ IsStoredAt later place value
    was_stored (inl none) = inl (sym read ∙ none)
    was_stored (inr stored) =
        let there = heap_listed s stored.by (kept.lists stored.by) (record { place = place; value = word_at (memory_of words) place }) stored.stored in
        let there_now : Contains (kept.lists stored.by) (store_of place value) = subst (λ x. Contains (kept.lists stored.by) (store_of place x)) read there in
        inr (record { by = stored.by; stored = still_there stored.by (store_of place value) there_now })

    told_now : (value ≡ 0) ⊎ IsStoredAt later place value
    told_now =
        let loaded : IsEvent (load_of place value) = subst IsEvent (sym is) event in
        was_stored (subst (λ (x : Role). WordAgrees s place (word_at (memory_of words) place) (records_by s kept.lists) x) role (kept.together.agree.words place loaded.0))

  heap_after : HeapIsTold s later
  heap_after q place value role has = same_or_other ((value ≡ 0) ⊎ IsStoredAt later place value) q r
      (λ t q_is. or (Contains-push_cases (kept.lists r) e (load_of place value)
      (subst (λ (l : List Event). Contains l (load_of place value)) more.own (subst (λ k. Contains (later k) (load_of place value)) q_is has))))
      (λ t ne. stored_still place value (kept.together.heap q place value role (subst (λ (l : List Event). Contains l (load_of place value)) (other_later q ne) has)))
    where
      or : Contains (kept.lists r) (load_of place value) ⊎ (e ≡ load_of place value) → (value ≡ 0) ⊎ IsStoredAt later place value
      or (inl old) = stored_still place value (kept.together.heap r place value role old)
      or (inr is) = told_now place value (sym is) role

  together_after : (late : Memory) → SameWords (memory_after (memory_of words) e) late → Together s late later
  together_after late is = record {
    agree = agree_after late is;
    beyond = λ q out. other_later q (λ q_is. absurd (omega (arith, q_is, out, own_seat.below))) ∙ kept.together.beyond q out;
    heap = heap_after;
  }

  within : r < length v
  within = known_within v r (list_at v r) here

  fits : (q : ℕ) (events : List Event) → events_of_rank (with_event v r e) q ≡ Some events → IsSeatOf s kept.owner later id q events
  fits q events is = same_or_other (IsSeatOf s kept.owner later id q events) q r
      (λ t q_is.
      let found : events_of_rank (with_event v r e) r ≡ Some events = subst (λ k. events_of_rank (with_event v r e) k ≡ Some events) q_is is in
      let own : list_at v r ++ e ∷ [] ≡ events = ap list_or_none (sym (known_here v r (Some (list_at v r ++ e ∷ [])) within) ∙ found) in
      subst (λ k. IsSeatOf s kept.owner later id k events) (sym q_is) (record { owns = own_seat.owns; list = own_later ∙ own; below = own_seat.below }))
      (λ t ne.
      let old = kept.suits id v at_id q events (sym (known_there v r (Some (list_at v r ++ e ∷ [])) q ne) ∙ is) in
      record { owns = old.owns; list = other_later q ne ∙ old.list; below = old.below })

  seats_after : (seat : ℕ) (w : SeatView) → get_elem? (slice_set views id (with_event v r e)) seat ≡ some w → (q : ℕ) (events : List Event) → events_of_rank w q ≡ Some events
      → IsSeatOf s kept.owner later seat q events
  seats_after seat w is_at q events is = or (elem_set views id (with_event v r e) seat w is_at)
    where
      or : ((seat ≡ id) × (w ≡ with_event v r e)) ⊎ ((seat ≢ id) × (get_elem? views seat ≡ some w)) → IsSeatOf s kept.owner later seat q events
      or (inl own) = subst (λ k. IsSeatOf s kept.owner later k q events) (sym own.0) (fits q events (subst (λ (x : SeatView). events_of_rank x q ≡ Some events) own.1 is))
      or (inr other) =
          let old = kept.suits seat w other.1 q events is in
          let ne : q ≢ r = λ q_is. other.0 (sym old.owns ∙ ap kept.owner q_is ∙ own_seat.owns) in
          record { owns = old.owns; list = other_later q ne ∙ old.list; below = old.below }

  pub step_keeps : Kept s now (slice_set views id (with_event v r e))
  step_keeps = record { valid = kept.valid; count = long; owner = kept.owner; lists = later; together = together_after (memory_of now) same; suits = seats_after }

  list_after : list_at (with_event v r e) r ≡ list_at v r ++ e ∷ []
  list_after = ap list_or_none (known_here v r (Some (list_at v r ++ e ∷ [])) within)

  pub step_tells : Made s r v e (with_event v r e)
  step_tells = record {
    view = refl;
    step = record {
      memory = memory_of words;
      lists = kept.lists;
      own = own_seat.list;
      others = λ q events ne is. (kept.suits id v at_id q events is).list;
      before = kept.together;
      step = step;
      after = together_after (memory_after (memory_of words) e) (same_words (memory_after (memory_of words) e) (memory_after (memory_of words) e) refl);
    };
    honest = subst (λ (l : List Event). IsHonest s r (record_of s r l) e) own_seat.list (told_law s (memory_of words) (records_by s kept.lists) kept.together.agree r own_seat.below e event step);
    list = list_after;
    known = is_known (with_event v r e) r (list_at v r ++ e ∷ []) (known_here v r (Some (list_at v r ++ e ∷ [])) within);
    sound = subst (λ (l : List Event). IsSound s r (record_of s r l)) (own_later ∙ sym list_after) (sound_law s (memory_of now) (records_by s later) (agree_after (memory_of now) same) r own_seat.below);
    knows = record {
      valid = kept.valid;
      memory = memory_of now;
      lists = later;
      together = together_after (memory_of now) same;
      list = λ q events is. (fits q events is).list;
      below = λ q events is. (fits q events is).below;
    };
  }

-- ---- a look

pub look_tells : (s : SetupView) (words : List ℕ) (views : List SeatView) → Kept s words views → (id : ℕ) (v : SeatView) → get_elem? views id ≡ some v → Knows s v
look_tells s words views kept id v at_id = record {
  valid = kept.valid;
  memory = memory_of words;
  lists = kept.lists;
  together = kept.together;
  list = λ r events is. (kept.suits id v at_id r events is).list;
  below = λ r events is. (kept.suits id v at_id r events is).below;
}

pub look_keeps : (s : SetupView) (words : List ℕ) (views : List SeatView) → Kept s words views → (id : ℕ) (v : SeatView) → get_elem? views id ≡ some v → Kept s words (slice_set views id v)
look_keeps s words views kept id v at_id = record { valid = kept.valid; count = kept.count; owner = kept.owner; lists = kept.lists; together = kept.together; suits = seats }
  where
    seats : (seat : ℕ) (w : SeatView) → get_elem? (slice_set views id v) seat ≡ some w → (r : ℕ) (events : List Event) → events_of_rank w r ≡ Some events → IsSeatOf s kept.owner kept.lists seat r events
    seats seat w is_at r events is = or (elem_set views id v seat w is_at)
      where
        or : ((seat ≡ id) × (w ≡ v)) ⊎ ((seat ≢ id) × (get_elem? views seat ≡ some w)) → IsSeatOf s kept.owner kept.lists seat r events
        or (inl own) = subst (λ k. IsSeatOf s kept.owner kept.lists k r events) (sym own.0) (kept.suits id v at_id r events (subst (λ (x : SeatView). events_of_rank x r ≡ Some events) own.1 is))
        or (inr other) = kept.suits seat w other.1 r events is
