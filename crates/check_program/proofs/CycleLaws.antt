-- Walks from number to number: one that does not end comes into a ring.
use Rattle.std.proofs.Common.{◌≡◌, ℕ, zero, suc, ◌+◌, ◌-◌, ◌==◌, ◌<◌, ◌≤◌, min, Bool, true, false, ◌||◌, List, [], ◌∷◌, ◌++◌, length, map, Option, Some, None, refl, sym, ap, ◌∙◌, subst, arith, add-one, zero-add, ◌⊎◌, inl, inr, ⊎_elim}
use Rattle.std.specs.Prelude.{is_some, option_and_then}
use Rattle.std.specs.List.{IsDistinct, list_any, range_with_len}
use Rattle.std.specs.Option.{option_map_or, unwrap_or}
use Rattle.std.proofs.lemmas.Bool.{cases_lt, eqb-true}
use Rattle.std.proofs.lemmas.Cmp.{nat_eq_equiv}
use Rattle.std.proofs.lemmas.List.Folds.{list_any-append}
use Rattle.std.proofs.lemmas.List.FromFn.{length-map-range_with_len, map-range_with_len_more}
use Rattle.std.proofs.lemmas.Map.Keys.{IsDistinct-push}
use Rattle.std.proofs.lemmas.Map.Steps.{length-le_from_distinct_below}
use Rattle.std.proofs.lemmas.Option.{same_Some}
use Rattle.script_machine.specs.declared.ends.UeEnd.{UeEnd}
use Rattle.script_machine.specs.declared.ends.UeEnd.TheVariants as ue_end
use Rattle.plain_meaning.specs.Ends.{Ended, ended_at}
use Rattle.check_program.specs.declared.causes.Cause.TheVariants as cause
use Rattle.check_program.specs.Waiting.{HasEndedRefusing, IsCause, ReachesIn, cause_at, cause_of, is_waiting, least_walked, after_exact_steps, stopped_by, after_steps}

module _ (next : ℕ → Option ℕ) where
  -- steps, and then more steps
  pub stepped_more : (m n r j : ℕ) → after_exact_steps next m r ≡ Some j → after_exact_steps next (m + n) r ≡ after_exact_steps next n j
  stepped_more zero n r j is = ap (λ (k : ℕ). after_exact_steps next k r) (zero-add n) ∙ ap (after_exact_steps next n) (same_Some r j is)
  stepped_more (suc m) n r j is =
      let more : suc m + n ≡ suc (m + n) = omega arith in
      ap (λ (k : ℕ). after_exact_steps next k r) more ∙ by (λ k. stepped_more m n k j) (next r) is
    where
      by : ((k : ℕ) → after_exact_steps next m k ≡ Some j → after_exact_steps next (m + n) k ≡ after_exact_steps next n j) → (o : Option ℕ) → option_and_then (after_exact_steps next m) o ≡ Some j → option_and_then (after_exact_steps next (m + n)) o ≡ after_exact_steps next n j
      by rest None is = absurd (cc)
      by rest (Some k) is = rest k is

  -- a walk that goes on takes all its steps, and one that ends is at its end
  abbrev pub Goes : ℕ → ℕ → ℕ → Type 0
  Goes n r to = (after_exact_steps next n r ≡ Some to) ⊎ ((m : ℕ) × (after_exact_steps next m r ≡ Some to) × (next to ≡ None))

  pub walk_goes : (n r : ℕ) → Goes n r (after_steps next n r)
  walk_goes zero r = inl refl
  walk_goes (suc n) r = by (walk_goes n) (next r) refl
    where
      further : (k : ℕ) → next r ≡ Some k → Goes n k (after_steps next n k) → Goes (suc n) r (after_steps next n k)
      further k is (inl all) = inl (ap (option_and_then (after_exact_steps next n)) is ∙ all)
      further k is (inr some) = inr (suc some.0, ap (option_and_then (after_exact_steps next some.0)) is ∙ some.1, some.2)

      by : ((k : ℕ) → Goes n k (after_steps next n k)) → (o : Option ℕ) → next r ≡ o → Goes (suc n) r (option_map_or (after_steps next n) o r)
      by rest None is = inr (0, refl, is)
      by rest (Some k) is = further k is (rest k)

-- numbers by their places
module _ (f : ℕ → ℕ) where
  found : (n x : ℕ) → list_any (λ y. x == y) (map f (range_with_len 0 n)) ≡ true → (i : ℕ) × (i < n) × (x ≡ f i)
  found zero x is = absurd (cc)
  found (suc n) x is = by (found n x) (list_any (λ y. x == y) (map f (range_with_len 0 n))) refl (x == f n) refl
      (sym (ap (list_any (λ y. x == y)) (ap (λ (k : ℕ). map f (range_with_len 0 k)) (sym (add-one n)) ∙ map-range_with_len_more f 0 n n (omega arith)) ∙ list_any-append (λ (y : ℕ). x == y) (map f (range_with_len 0 n)) (f n ∷ [])) ∙ is)
    where
      by : (list_any (λ y. x == y) (map f (range_with_len 0 n)) ≡ true → (i : ℕ) × (i < n) × (x ≡ f i)) → (a : Bool) → list_any (λ y. x == y) (map f (range_with_len 0 n)) ≡ a → (b : Bool) → (x == f n) ≡ b
          → (list_any (λ y. x == y) (map f (range_with_len 0 n)) || ((x == f n) || false)) ≡ true → (i : ℕ) × (i < suc n) × (x ≡ f i)
      by rest true front b here is = let more = rest front in (more.0, omega (arith, more.1), more.2)
      by rest false front true here is = (n, omega arith, eqb-true x (f n) here)
      by rest false front false here is = absurd (cc)

  abbrev pub Repeats : ℕ → Type 0
  Repeats n = (i : ℕ) × (j : ℕ) × (i < j) × (j < n) × (f j ≡ f i)

  -- either all are different, or one comes twice
  repeats : (n : ℕ) → IsDistinct (λ x y. x == y) (map f (range_with_len 0 n)) ⊎ Repeats n
  unfolding IsDistinct
  repeats zero = inl tt
  repeats (suc n) = by (repeats n)
    where
      one_more : map f (range_with_len 0 (suc n)) ≡ map f (range_with_len 0 n) ++ f n ∷ []
      one_more = ap (λ (k : ℕ). map f (range_with_len 0 k)) (sym (add-one n)) ∙ map-range_with_len_more f 0 n n (omega arith)

      at : (b : Bool) → list_any (λ y. f n == y) (map f (range_with_len 0 n)) ≡ b → IsDistinct (λ x y. x == y) (map f (range_with_len 0 n)) → IsDistinct (λ x y. x == y) (map f (range_with_len 0 (suc n))) ⊎ Repeats (suc n)
      at true is odd = let first = found n (f n) is in inr (first.0, n, first.1, omega arith, first.2)
      at false is odd = inl (subst (IsDistinct (λ x y. x == y)) (sym one_more) (IsDistinct-push nat_eq_equiv (map f (range_with_len 0 n)) (f n) odd is))

      by : IsDistinct (λ x y. x == y) (map f (range_with_len 0 n)) ⊎ Repeats n → IsDistinct (λ x y. x == y) (map f (range_with_len 0 (suc n))) ⊎ Repeats (suc n)
      by (inl odd) = at (list_any (λ y. f n == y) (map f (range_with_len 0 n))) refl odd
      by (inr same) = inr (same.0, same.1, same.2, omega (arith, same.3), same.4)

  -- more numbers than there are below a bound
  pub must_repeat : (n : ℕ) → ((i : ℕ) → i < n + 1 → f i < n) → Repeats (n + 1)
  must_repeat n low =
      ⊎_elim
      (λ (odd : IsDistinct (λ x y. x == y) (map f (range_with_len 0 (n + 1)))).
      absurd (let few = length-le_from_distinct_below (map f (range_with_len 0 (n + 1))) n odd (λ q is. let at = found (n + 1) q is in omega (arith, at.2, low at.0 at.1)) in
      omega (arith, few, length-map-range_with_len f 0 (n + 1))))
      (λ (same : Repeats (n + 1)). same)
      (repeats (n + 1))

-- the least of a walk
module _ (next : ℕ → Option ℕ) where
  -- what stands next, by what a number of steps comes to
  first_step : (n r j : ℕ) → after_exact_steps next (suc n) r ≡ Some j → (k : ℕ) × (next r ≡ Some k) × (after_exact_steps next n k ≡ Some j)
  first_step n r j is = by (next r) refl is
    where
      by : (o : Option ℕ) → next r ≡ o → option_and_then (after_exact_steps next n) o ≡ Some j → (k : ℕ) × (next r ≡ Some k) × (after_exact_steps next n k ≡ Some j)
      by None here is = absurd (cc)
      by (Some k) here is = (k, here, is)

  least_at : (n r k : ℕ) → next r ≡ Some k → least_walked next (suc n) r ≡ min r (least_walked next n k)
  least_at n r k is = ap (λ (o : Option ℕ). option_map_or (λ i. min r (least_walked next n i)) o r) is

  none_at : (n r : ℕ) → next r ≡ None → least_walked next (suc n) r ≡ r
  none_at n r is = ap (λ (o : Option ℕ). option_map_or (λ i. min r (least_walked next n i)) o r) is

  least_first : (n r : ℕ) → least_walked next n r ≤ r
  least_first zero r = omega arith
  least_first (suc n) r = by (next r) refl
    where
      by : (o : Option ℕ) → next r ≡ o → least_walked next (suc n) r ≤ r
      by None is = omega (arith, none_at n r is)
      by (Some k) is = omega (arith, least_at n r k is)

  -- it is reached
  least_reached : (n r : ℕ) → (m : ℕ) × (m ≤ n) × (after_exact_steps next m r ≡ Some (least_walked next n r))
  least_reached zero r = (0, omega arith, refl)
  least_reached (suc n) r = by (least_reached n) (next r) refl
    where
      at : (k : ℕ) → next r ≡ Some k → (m : ℕ) × (m ≤ n) × (after_exact_steps next m k ≡ Some (least_walked next n k)) → (m : ℕ) × (m ≤ suc n) × (after_exact_steps next m r ≡ Some (least_walked next (suc n) r))
      at k is rest =
          ⊎_elim
          (λ (here : r < least_walked next n k). (0, omega arith, ap (λ (i : ℕ). Some i) (let e = least_at n r k is in omega (arith, e, here))))
          (λ (there : least_walked next n k ≤ r). (
            suc rest.0,
            omega (arith, rest.1),
            ap (option_and_then (after_exact_steps next rest.0)) is ∙ rest.2 ∙ ap (λ (i : ℕ). Some i) (let e = least_at n r k is in omega (arith, e, there)),
          ))
          (cases_lt r (least_walked next n k))

      by : ((k : ℕ) → (m : ℕ) × (m ≤ n) × (after_exact_steps next m k ≡ Some (least_walked next n k))) → (o : Option ℕ) → next r ≡ o → (m : ℕ) × (m ≤ suc n) × (after_exact_steps next m r ≡ Some (least_walked next (suc n) r))
      by rest None is = (0, omega arith, ap (λ (i : ℕ). Some i) (sym (none_at n r is)))
      by rest (Some k) is = at k is (rest k)

  -- and nothing less is, in so many steps
  least_below : (n m r j : ℕ) → m ≤ n → after_exact_steps next m r ≡ Some j → least_walked next n r ≤ j
  least_below n zero r j within is = let same : r ≡ j = same_Some r j is in omega (arith, least_first n r, same)
  least_below zero (suc m) r j within is = absurd (omega (arith, within))
  least_below (suc n) (suc m) r j within is =
      let step = first_step m r j is in
      let rest : least_walked next n step.0 ≤ j = least_below n m step.0 j (omega (arith, within)) step.2 in
      let e = least_at n r step.0 step.1 in
      omega (arith, e, rest)

  -- the fronts of a walk
  fronts : (n m r j : ℕ) → m ≤ n → after_exact_steps next n r ≡ Some j → (k : ℕ) × (after_exact_steps next m r ≡ Some k)
  fronts n zero r j within is = (r, refl)
  fronts zero (suc m) r j within is = absurd (omega (arith, within))
  fronts (suc n) (suc m) r j within is =
      let step = first_step n r j is in
      let rest = fronts n m step.0 j (omega (arith, within)) step.2 in
      (rest.0, ap (option_and_then (after_exact_steps next m)) step.1 ∙ rest.1)

  module _ (count : ℕ) (low : (i k : ℕ) → i < count → next i ≡ Some k → k < count) where
    pub stays_low : (n r j : ℕ) → r < count → after_exact_steps next n r ≡ Some j → j < count
    stays_low zero r j below is = let same : r ≡ j = same_Some r j is in omega (arith, same, below)
    stays_low (suc n) r j below is = let step = first_step n r j is in stays_low n step.0 j (low r step.0 below step.1) step.2

    -- a walk of as many steps as there are ranks has come into a ring
    pub in_ring : (r last : ℕ) → r < count → after_exact_steps next count r ≡ Some last → (d : ℕ) × (0 < d) × (d ≤ count) × (after_exact_steps next d last ≡ Some last)
    in_ring r last below is =
        let f : ℕ → ℕ = λ i. unwrap_or (after_exact_steps next i r) 0 in
        let at : (i : ℕ) → i < count + 1 → after_exact_steps next i r ≡ Some (f i) = λ i within.
        let front = fronts count i r last (omega (arith, within)) is in front.1 ∙ ap (λ (o : Option ℕ). Some (unwrap_or o 0)) (sym front.1) in
        let twice = must_repeat f count (λ i within. stays_low i r (f i) below (at i within)) in
        let i = twice.0 in
        let j = twice.1 in
        let d : ℕ = j - i in
        let rest : ℕ = count - i in
        let before : after_exact_steps next i r ≡ Some (f i) = at i (omega (arith, twice.2, twice.3)) in
        let round : after_exact_steps next d (f i) ≡ Some (f i) =
        sym (stepped_more next i d r (f i) before) ∙ ap (λ (n : ℕ). after_exact_steps next n r) (let e : i + d ≡ j = omega (arith, twice.2) in e) ∙ at j twice.3 ∙ ap (λ (n : ℕ). Some n) twice.4 in
        let onward : after_exact_steps next rest (f i) ≡ Some last =
        sym (stepped_more next i rest r (f i) before) ∙ ap (λ (n : ℕ). after_exact_steps next n r) (let e : i + rest ≡ count = omega (arith, twice.2, twice.3) in e) ∙ is in (
          d,
          omega (arith, twice.2),
          omega (arith, twice.3),
          sym (stepped_more next rest d (f i) last onward)
              ∙ ap (λ (n : ℕ). after_exact_steps next n (f i)) (let e : rest + d ≡ d + rest = omega arith in e)
              ∙ stepped_more next d rest (f i) (f i) round
              ∙ onward,
        )

    -- a walk of more steps than there are ranks goes round, and may leave that out
    shorter : (n r j : ℕ) → r < count → count < n → after_exact_steps next n r ≡ Some j → (m : ℕ) × (m < n) × (after_exact_steps next m r ≡ Some j)
    shorter n r j below long is =
        let f : ℕ → ℕ = λ i. unwrap_or (after_exact_steps next i r) 0 in
        let at : (i : ℕ) → i < count + 1 → after_exact_steps next i r ≡ Some (f i) = λ i within.
        let front = fronts n i r j (omega (arith, within, long)) is in front.1 ∙ ap (λ (o : Option ℕ). Some (unwrap_or o 0)) (sym front.1) in
        let twice = must_repeat f count (λ i within. stays_low i r (f i) below (at i within)) in
        let first = twice.0 in
        let second = twice.1 in
        let rest : ℕ = n - second in
        let before : after_exact_steps next first r ≡ Some (f first) = at first (omega (arith, twice.2, twice.3)) in
        let there : after_exact_steps next second r ≡ Some (f first) = at second twice.3 ∙ ap (λ (k : ℕ). Some k) twice.4 in
        let onward : after_exact_steps next rest (f first) ≡ Some j =
        sym (stepped_more next second rest r (f first) there) ∙ ap (λ (k : ℕ). after_exact_steps next k r) (let e : second + rest ≡ n = omega (arith, twice.3, long) in e) ∙ is in
        (first + rest, omega (arith, twice.2, twice.3, long), stepped_more next first rest r (f first) before ∙ onward)

    -- what is reached at all is reached in at most as many steps as there are ranks
    pub short_way : (fuel n r j : ℕ) → n ≤ fuel → r < count → after_exact_steps next n r ≡ Some j → (m : ℕ) × (m ≤ count) × (after_exact_steps next m r ≡ Some j)
    short_way zero n r j few below is = (n, omega (arith, few), is)
    short_way (suc fuel) n r j few below is =
        ⊎_elim
        (λ (long : count < n). let less = shorter n r j below long is in short_way fuel less.0 r j (omega (arith, few, less.1)) below less.2)
        (λ (short : n ≤ count). (n, short, is))
        (cases_lt count n)

    -- in a ring any number of steps comes to what less than one round comes to
    reduced : (d last : ℕ) → 0 < d → after_exact_steps next d last ≡ Some last → (fuel m j : ℕ) → m ≤ fuel → after_exact_steps next m last ≡ Some j → (n : ℕ) × (n < d) × (after_exact_steps next n last ≡ Some j)
    reduced d last some round zero m j within is = (m, omega (arith, within, some), is)
    reduced d last some round (suc fuel) m j within is =
        ⊎_elim
        (λ (short : m < d). (m, short, is))
        (λ (long : d ≤ m).
        reduced d last some round fuel (m - d) j (omega (arith, within, some, long))
        (sym (stepped_more next d (m - d) last last round) ∙ ap (λ (n : ℕ). after_exact_steps next n last) (let e : d + (m - d) ≡ m = omega (arith, long) in e) ∙ is))
        (cases_lt m d)

    -- the least rank of the ring: it is reached, it is in the ring, and none less is reached from it
    pub least_of_ring : (last d : ℕ) → 0 < d → d ≤ count → after_exact_steps next d last ≡ Some last → let least : ℕ = least_walked next count last in
        ((m : ℕ) × (after_exact_steps next m last ≡ Some least)) × (after_exact_steps next d least ≡ Some least) × ((m j : ℕ) → after_exact_steps next m least ≡ Some j → least ≤ j)
    least_of_ring last d some few round =
        let least : ℕ = least_walked next count last in
        let reached = least_reached count last in
        let m = reached.0 in (
          (m, reached.2),
          sym (stepped_more next m d last least reached.2) ∙ ap (λ (n : ℕ). after_exact_steps next n last) (let e : m + d ≡ d + m = omega arith in e) ∙ stepped_more next d m last last round ∙ reached.2,
          λ n j is.
              let from_last : after_exact_steps next (m + n) last ≡ Some j = stepped_more next m n last least reached.2 ∙ is in
              let short = reduced d last some round (m + n) (m + n) j (omega arith) from_last in
              least_below count short.0 last j (omega (arith, short.1, few)) short.2,
        )

-- the cause that is found is what it says
module _ (next : ℕ → Option ℕ) (ends : List Ended) (low : (i k : ℕ) → i < length ends → next i ≡ Some k → k < length ends) (waiting : (i : ℕ) → i < length ends → is_some (next i) ≡ is_waiting (ended_at ends i).end) where
  soon : (n rank k : ℕ) → rank < length ends → after_exact_steps next n rank ≡ Some k → ReachesIn next (length ends) rank k
  soon n rank k below is = short_way next (length ends) low n n rank k (omega arith) below is

  stop_means : (rank last : ℕ) → ReachesIn next (length ends) rank last → next last ≡ None → last < length ends → (e : UeEnd) → (ended_at ends last).end ≡ e → IsCause next ends rank (stopped_by last e)
  stop_means rank last way none below ue_end.Finished is = (way, is)
  stop_means rank last way none below (ue_end.Waits line call) is =
      absurd (let both : false ≡ true = sym (ap is_some none) ∙ waiting last below ∙ ap is_waiting is in cc)
  stop_means rank last way none below (ue_end.Mismatch line from sent asked) is = (way, subst HasEndedRefusing (sym is) tt)

  pub cause_means : (rank : ℕ) → rank < length ends → IsCause next ends rank (cause_of next ends rank)
  cause_means rank below = by (next (after_steps next (length ends) rank)) refl (walk_goes next (length ends) rank)
    where
      ring : (last : ℕ) → after_exact_steps next (length ends) rank ≡ Some last → IsCause next ends rank (cause.Cycle (least_walked next (length ends) last))
      ring last all =
          let round = in_ring next (length ends) low rank last below all in
          let least = least_of_ring next (length ends) low last round.0 round.1 round.2 round.3 in (
            soon (length ends + least.0.0) rank (least_walked next (length ends) last) below (stepped_more next (length ends) least.0.0 rank last all ∙ least.0.1),
            (round.0, round.1, least.1),
            λ other way. least.2 way.0 other way.1,
          )

      stop : (n last : ℕ) → after_exact_steps next n rank ≡ Some last → next last ≡ None → IsCause next ends rank (stopped_by last (ended_at ends last).end)
      stop n last all none =
          stop_means rank last (soon n rank last below all) none (stays_low next (length ends) low n rank last below all) (ended_at ends last).end refl

      by : (o : Option ℕ) → next (after_steps next (length ends) rank) ≡ o → Goes next (length ends) rank (after_steps next (length ends) rank) → IsCause next ends rank (cause_at next ends (after_steps next (length ends) rank) o)
      by None none (inl all) = stop (length ends) (after_steps next (length ends) rank) all none
      by None none (inr some) = stop some.0 (after_steps next (length ends) rank) some.1 none
      by (Some k) is (inl all) = ring (after_steps next (length ends) rank) all
      by (Some k) is (inr some) = absurd (let both : Some k ≡ None = sym is ∙ some.2 in cc)
