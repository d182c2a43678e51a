-- Views of seats: what they know after a change, and views among a list of views.
use Rattle.std.proofs.Common.{◌≡◌, ◌≢◌, ◌⊎◌, inl, inr, ℕ, zero, suc, ◌<◌, ◌≤◌, List, [], ◌∷◌, ◌++◌, length, replicate, slice_set, Option, Some, None, refl, sym, ◌∙◌, ap, arith}
use mathlib.Core.Option.{some}
use lib.ListN.{get_elem?}
use Rattle.std.proofs.lemmas.List.{get_or-set_same, get_or-set_other}
use Rattle.scc_base.specs.Setups.{SetupView}
use Rattle.scc_base.specs.declared.events.Event.{Event}
use Rattle.scc_mesh.specs.SeatViews.{SeatView, events_of_rank, list_or_none, list_at, IsKnown, newcomer, lone_view, joined_seats}

pub known_within : (v : SeatView) (r : ℕ) (events : List Event) → events_of_rank v r ≡ Some events → r < length v
known_within [] r events is = absurd (cc (is))
known_within (x ∷ v) zero events is = omega arith
known_within (x ∷ v) (suc r) events is = let lt = known_within v r events is in omega (arith, lt)

pub known_list : (v : SeatView) (r : ℕ) (events : List Event) → events_of_rank v r ≡ Some events → list_at v r ≡ events
known_list v r events is = ap list_or_none is

pub is_known : (v : SeatView) (r : ℕ) (events : List Event) → events_of_rank v r ≡ Some events → IsKnown v r
is_known v r events is = is ∙ ap (λ (l : List Event). Some l) (sym (known_list v r events is))

pub known_here : (v : SeatView) (r : ℕ) (x : Option (List Event)) → r < length v → events_of_rank (slice_set v r x) r ≡ x
known_here v r x lt = get_or-set_same v r x None lt

pub known_there : (v : SeatView) (r : ℕ) (x : Option (List Event)) (q : ℕ) → q ≢ r → events_of_rank (slice_set v r x) q ≡ events_of_rank v q
known_there v r x q ne = get_or-set_other v r q x None ne

newcomer_from : (n r : ℕ) (events : List Event) → events_of_rank (replicate n (Some [])) r ≡ Some events → (events ≡ []) × (r < n)
newcomer_from zero r events is = absurd (cc (is))
newcomer_from (suc n) zero events is = (sym (ap list_or_none is), omega arith)
newcomer_from (suc n) (suc r) events is = let rest = newcomer_from n r events is in (rest.0, omega (arith, rest.1))

pub newcomer_known : (s : SetupView) (r : ℕ) (events : List Event) → events_of_rank (newcomer s) r ≡ Some events → (events ≡ []) × (r < s.nue)
unfolding newcomer
newcomer_known s r events is = newcomer_from s.nue r events is

newcomers_length : (n : ℕ) (x : Option (List Event)) → length (replicate n x) ≡ n
newcomers_length zero x = refl
newcomers_length (suc n) x = ap suc (newcomers_length n x)

pub newcomer_length : (s : SetupView) → length (newcomer s) ≡ s.nue
unfolding newcomer
newcomer_length s = newcomers_length s.nue (Some [])

-- ---- one view among many

module _ {A : Type 0} where
  -- an element of a list with one element changed is that one, or an old one
  pub elem_set : (xs : List A) (i : ℕ) (w : A) (k : ℕ) (x : A) → get_elem? (slice_set xs i w) k ≡ some x → ((k ≡ i) × (x ≡ w)) ⊎ ((k ≢ i) × (get_elem? xs k ≡ some x))
  elem_set [] i w k x is = absurd (cc (is))
  elem_set (y ∷ ys) zero w zero x is = inl (refl, cc (is))
  elem_set (y ∷ ys) zero w (suc k) x is = inr ((λ e. absurd (omega (arith, e))), is)
  elem_set (y ∷ ys) (suc i) w zero x is = inr ((λ e. absurd (omega (arith, e))), is)
  elem_set (y ∷ ys) (suc i) w (suc k) x is = up (elem_set ys i w k x is)
    where
      up : ((k ≡ i) × (x ≡ w)) ⊎ ((k ≢ i) × (get_elem? ys k ≡ some x)) → ((suc k ≡ suc i) × (x ≡ w)) ⊎ ((suc k ≢ suc i) × (get_elem? ys k ≡ some x))
      up (inl a) = inl (ap suc a.0, a.1)
      up (inr b) = inr ((λ e. b.0 (omega (arith, e))), b.1)

  -- an element of a list with one element more is that one, or an old one
  pub elem_push : (xs : List A) (w : A) (k : ℕ) (x : A) → get_elem? (xs ++ w ∷ []) k ≡ some x → ((k ≡ length xs) × (x ≡ w)) ⊎ ((k < length xs) × (get_elem? xs k ≡ some x))
  elem_push [] w zero x is = inl (refl, cc (is))
  elem_push [] w (suc k) x is = absurd (cc (is))
  elem_push (y ∷ ys) w zero x is = inr (omega arith, is)
  elem_push (y ∷ ys) w (suc k) x is = up (elem_push ys w k x is)
    where
      up : ((k ≡ length ys) × (x ≡ w)) ⊎ ((k < length ys) × (get_elem? ys k ≡ some x)) → ((suc k ≡ suc (length ys)) × (x ≡ w)) ⊎ ((suc k < suc (length ys)) × (get_elem? ys k ≡ some x))
      up (inl a) = inl (ap suc a.0, a.1)
      up (inr b) = inr (omega (arith, b.0), b.1)

  pub elem_within : (xs : List A) (k : ℕ) (x : A) → get_elem? xs k ≡ some x → k < length xs
  elem_within [] k x is = absurd (cc (is))
  elem_within (y ∷ ys) zero x is = omega arith
  elem_within (y ∷ ys) (suc k) x is = let lt = elem_within ys k x is in omega (arith, lt)

-- ---- a seat of one rank, and two seats in one

alone_own : (r : ℕ) (x : Option (List Event)) → events_of_rank (replicate r None ++ x ∷ []) r ≡ x
alone_own zero x = refl
alone_own (suc r) x = alone_own r x

pub alone_here : (r : ℕ) (x : Option (List Event)) → events_of_rank (lone_view r x) r ≡ x
unfolding lone_view
alone_here r x = alone_own r x

alone_others : (r : ℕ) (x : Option (List Event)) (q : ℕ) → q ≢ r → events_of_rank (replicate r None ++ x ∷ []) q ≡ None
alone_others zero x zero ne = absurd (ne refl)
alone_others zero x (suc q) ne = refl
alone_others (suc r) x zero ne = refl
alone_others (suc r) x (suc q) ne = alone_others r x q (λ e. ne (ap suc e))

pub alone_there : (r : ℕ) (x : Option (List Event)) (q : ℕ) → q ≢ r → events_of_rank (lone_view r x) q ≡ None
unfolding lone_view
alone_there r x q ne = alone_others r x q ne

alone_change : (r : ℕ) (x y : Option (List Event)) → slice_set (replicate r None ++ x ∷ []) r y ≡ replicate r None ++ y ∷ []
alone_change zero x y = refl
alone_change (suc r) x y = ap (λ (v : SeatView). None ∷ v) (alone_change r x y)

pub alone_set : (r : ℕ) (x y : Option (List Event)) → slice_set (lone_view r x) r y ≡ lone_view r y
unfolding lone_view
alone_set r x y = alone_change r x y

pub joined_knows : (v w : SeatView) (q : ℕ) (events : List Event) → events_of_rank (joined_seats v w) q ≡ Some events → (events_of_rank w q ≡ Some events) ⊎ (events_of_rank v q ≡ Some events)
joined_knows [] w q events is = inl is
joined_knows (x ∷ v) [] q events is = inr is
joined_knows (x ∷ v) (None ∷ w) zero events is = inr is
joined_knows (x ∷ v) (Some y ∷ w) zero events is = inl is
joined_knows (x ∷ v) (y ∷ w) (suc q) events is = joined_knows v w q events is

joined_from : (v : SeatView) (r : ℕ) (events : List Event) → r < length v → joined_seats v (replicate r None ++ Some events ∷ []) ≡ slice_set v r (Some events)
joined_from [] r events lt = absurd (omega (arith, lt))
joined_from (x ∷ []) zero events lt = refl
joined_from (x ∷ y ∷ v) zero events lt = refl
joined_from (x ∷ v) (suc r) events lt = ap (λ (z : SeatView). x ∷ z) (joined_from v r events (omega (arith, lt)))

pub joined_alone : (v : SeatView) (r : ℕ) (events : List Event) → r < length v → joined_seats v (lone_view r (Some events)) ≡ slice_set v r (Some events)
unfolding lone_view
joined_alone v r events lt = joined_from v r events lt

joined_own : (v : SeatView) (r : ℕ) (x : Option (List Event)) (events : List Event) → x ≡ Some events → events_of_rank (joined_seats v (replicate r None ++ x ∷ [])) r ≡ Some events
joined_own [] r x events is = alone_own r x ∙ is
joined_own (y ∷ v) zero (Some z) events is = is
joined_own (y ∷ v) zero None events is = absurd (cc (is))
joined_own (y ∷ v) (suc r) x events is = joined_own v r x events is

pub set_twice : (v : SeatView) (r : ℕ) (x y : Option (List Event)) → slice_set (slice_set v r x) r y ≡ slice_set v r y
set_twice [] r x y = refl
set_twice (z ∷ v) zero x y = refl
set_twice (z ∷ v) (suc r) x y = ap (λ (w : SeatView). z ∷ w) (set_twice v r x y)

pub list_past : (v : SeatView) (r : ℕ) → length v ≤ r → list_at v r ≡ []
list_past [] r out = refl
list_past (x ∷ v) zero out = absurd (omega (arith, out))
list_past (x ∷ v) (suc r) out = list_past v r (omega (arith, out))

newcomers_here : (n r : ℕ) → r < n → events_of_rank (replicate n (Some [])) r ≡ Some []
newcomers_here zero r lt = absurd (omega (arith, lt))
newcomers_here (suc n) zero lt = refl
newcomers_here (suc n) (suc r) lt = newcomers_here n r (omega (arith, lt))

pub newcomer_here : (s : SetupView) (r : ℕ) → r < s.nue → IsKnown (newcomer s) r
unfolding newcomer
newcomer_here s r lt = is_known (newcomer s) r [] (newcomers_here s.nue r lt)

newcomers_list : (n r : ℕ) → list_at (replicate n (Some [])) r ≡ []
newcomers_list zero r = refl
newcomers_list (suc n) zero = refl
newcomers_list (suc n) (suc r) = newcomers_list n r

pub newcomer_list : (s : SetupView) (r : ℕ) → list_at (newcomer s) r ≡ []
unfolding newcomer
newcomer_list s r = newcomers_list s.nue r

pub joined_here : (v : SeatView) (r : ℕ) (events : List Event) → events_of_rank (joined_seats v (lone_view r (Some events))) r ≡ Some events
unfolding lone_view
joined_here v r events = joined_own v r (Some events) events refl
