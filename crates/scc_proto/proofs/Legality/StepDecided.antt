-- Whether an owner has a step is decided.
use Rattle.std.proofs.Common.{◌≡◌, ◌⊎◌, ℕ, zero, suc, ◌+◌, ◌<◌, Bool, true, false, true≢false, if◌then◌else◌, List, [], ◌∷◌, inl, inr, ⊎_elim, refl, sym, ◌∙◌, ap, subst, arith}
use Rattle.std.proofs.lemmas.Bool.Decides.{nat_tests}
use Rattle.scc_base.specs.Calls.{DataCall}
use Rattle.scc_base.specs.Groups.{place_in}
use Rattle.scc_base.proofs.Confluence.{equal_or_not, last_or_below}
use Rattle.scc_proto.specs.Legality.{Standing, CallStep, Posting, Taking, Pairing, Meeting, owner_of, IsFirst, IsProper, callers, call_at, looks_at_slot, slot_before, slot_after, slots_after, Makes, OwnStep}
use Rattle.scc_proto.proofs.Legality.CallTests.{IsDecided, BeginsWith, begins_with, same_slot}
use Rattle.scc_proto.proofs.Legality.StepLaws.{own_step, owner_of-own_step, step_told, first_call}

-- what is decided at each number is decided for all numbers below a bound
decide_below : (P : ℕ → Type 0) → ((k : ℕ) → IsDecided (P k)) → (n : ℕ) → IsDecided ((k : ℕ) → k < n → P k)
decide_below P decide zero = inl (λ k below. absurd (omega (arith, below)))
decide_below P decide (suc n) = next (decide n) (decide_below P decide n)
  where
    next : IsDecided (P n) → IsDecided ((k : ℕ) → k < n → P k) → IsDecided ((k : ℕ) → k < suc n → P k)
    next (inr never) rest = inr (λ all. never (all n (omega arith)))
    next (inl holds) (inr never) = inr (λ all. never (λ k below. all k (omega (arith, below))))
    next (inl holds) (inl rest) =
        inl (λ k below.
        ⊎_elim
        (λ (is : k ≡ n). subst P (sym is) holds)
        (λ (lower : k < n). rest k lower)
        (last_or_below k n below))

-- what is decided at each member of a bounded set is decided for all of them
decide_members : (set : ℕ → Bool) (n : ℕ) → ((k : ℕ) → set k ≡ true → k < n) → (P : ℕ → Type 0) → ((k : ℕ) → IsDecided (P k)) → IsDecided ((k : ℕ) → set k ≡ true → P k)
decide_members set n bound P decide =
    ⊎_elim
    (λ (all : (k : ℕ) → k < n → set k ≡ true → P k). inl (λ k within. all k (bound k within) within))
    (λ (never : ((k : ℕ) → k < n → set k ≡ true → P k) → ⊥). inr (λ all. never (λ k below within. all k within)))
    (decide_below (λ k. set k ≡ true → P k) (λ k. member (set k) (P k) (decide k)) n)
  where
    member : (b : Bool) (A : Type 0) → IsDecided A → IsDecided (b ≡ true → A)
    member true A (inl holds) = inl (λ is. holds)
    member true A (inr never) = inr (λ holds. never (holds refl))
    member false A either = inl (λ is. absurd (true≢false (sym is)))

decide_both : (A B : Type 0) → IsDecided A → IsDecided B → IsDecided (A × B)
decide_both A B (inl a) (inl b) = inl (a, b)
decide_both A B (inl a) (inr never) = inr (λ all. never all.1)
decide_both A B (inr never) b = inr (λ all. never all.0)

decide_not : (A : Type 0) → IsDecided A → IsDecided (A → ⊥)
decide_not A (inl a) = inr (λ never. never a)
decide_not A (inr never) = inl never

abbrev without_first : List DataCall → List DataCall
without_first [] = []
without_first (c ∷ rest) = rest

module _ (nue : ℕ) (keys : ℕ → ℕ → ℕ) where
  decide_first : (comm r : ℕ) → IsDecided (IsFirst nue keys comm r)
  decide_first comm r =
      ⊎_elim
      (λ (all : (r < nue) × (place_in (keys comm) r ≡ 0)). inl (record { below = all.0; zeroth = all.1 }))
      (λ (never : (r < nue) × (place_in (keys comm) r ≡ 0) → ⊥). inr (λ first. never (first.below, first.zeroth)))
      (decide_both (r < nue) (place_in (keys comm) r ≡ 0) (is_below r nue) (equal_or_not (place_in (keys comm) r) 0))
    where
      is_below : (a b : ℕ) → IsDecided (a < b)
      is_below a b = grind arith

  decide_proper : (step : CallStep) → IsDecided (IsProper nue keys step)
  decide_proper (Posting from m) = inl tt
  decide_proper (Taking from m) = inl tt
  decide_proper (Pairing from m) = decide_not (from ≡ m.to) (equal_or_not from m.to)
  decide_proper (Meeting comm root) = decide_first comm root

  -- the callers of a step are below some number, and so is the rank of its slot
  callers_below : (step : CallStep) → (n : ℕ) × ((k : ℕ) → callers nue keys step k ≡ true → k < n)
  callers_below (Posting from m) = (suc from, λ k within. grind (arith, nat_tests))
  callers_below (Taking from m) = (suc m.to, λ k within. grind (arith, nat_tests))
  callers_below (Pairing from m) = (suc (from + m.to), λ k within. grind (arith, nat_tests))
  callers_below (Meeting comm root) = (nue, λ k within. grind (arith, nat_tests))

  slot_below : (step : CallStep) → (n : ℕ) × ((k : ℕ) → looks_at_slot step k ≡ true → k < n)
  slot_below (Posting from m) = (suc from, λ k within. grind (arith, nat_tests))
  slot_below (Taking from m) = (suc from, λ k within. grind (arith, nat_tests))
  slot_below (Pairing from m) = (suc from, λ k within. grind (arith, nat_tests))
  slot_below (Meeting comm root) = (0, λ k within. absurd (true≢false (sym within)))

  -- a step can be made: its callers stand at its calls, and its slot is as it has to be
  pub record IsReady (step : CallStep) (s : Standing) : Type 0 where
    pub proper : IsProper nue keys step
    pub calls : (k : ℕ) → callers nue keys step k ≡ true → BeginsWith (call_at step k) (s.calls k)
    pub slot : (k : ℕ) → looks_at_slot step k ≡ true → s.slots k ≡ slot_before step

  decide_ready : (step : CallStep) (s : Standing) → IsDecided (IsReady step s)
  decide_ready step s =
      ⊎_elim
      (λ (all : IsProper nue keys step × (Calls × Slot)). inl (record { proper = all.0; calls = all.1.0; slot = all.1.1 }))
      (λ (never : IsProper nue keys step × (Calls × Slot) → ⊥). inr (λ ready. never (ready.proper, (ready.calls, ready.slot))))
      (decide_both (IsProper nue keys step) (Calls × Slot) (decide_proper step) (decide_both Calls Slot calls slot))
    where
      Calls : Type 0
      Calls = (k : ℕ) → callers nue keys step k ≡ true → BeginsWith (call_at step k) (s.calls k)

      Slot : Type 0
      Slot = (k : ℕ) → looks_at_slot step k ≡ true → s.slots k ≡ slot_before step

      calls : IsDecided Calls
      calls = let bound = callers_below step in decide_members (callers nue keys step) bound.0 bound.1 (λ k. BeginsWith (call_at step k) (s.calls k)) (λ k. begins_with (call_at step k) (s.calls k))

      slot : IsDecided Slot
      slot = let bound = slot_below step in decide_members (looks_at_slot step) bound.0 bound.1 (λ k. s.slots k ≡ slot_before step) (λ k. same_slot (s.slots k) (slot_before step))

  -- the standing after a step
  abbrev pub standing_after : CallStep → Standing → Standing
  standing_after step s = record {
    calls = λ k. if callers nue keys step k then without_first (s.calls k) else s.calls k;
    slots = slots_after step s.slots;
  }

  pub ready_makes : (step : CallStep) (s : Standing) → IsReady step s → Makes nue keys step s (standing_after step s)
  ready_makes step s ready = record {
    proper = ready.proper;
    calls = record {
      changed = λ k within.
          let (rest, is) = ready.calls k within in
          let after : (if callers nue keys step k then without_first (s.calls k) else s.calls k) ≡ rest =
          ap (λ (b : Bool). if b then without_first (s.calls k) else s.calls k) within ∙ ap without_first is in
          is ∙ ap (λ (l : List DataCall). call_at step k ∷ l) (sym after);
      others = λ k without. sym (ap (λ (b : Bool). if b then without_first (s.calls k) else s.calls k) without);
    };
    slots = record {
      changed = λ k within. (ready.slot k within, ap (λ (b : Bool). if b then slot_after step else s.slots k) within);
      others = λ k without. sym (ap (λ (b : Bool). if b then slot_after step else s.slots k) without);
    };
  }

  pub makes_ready : (step : CallStep) (s t : Standing) → Makes nue keys step s t → IsReady step s
  makes_ready step s t makes = record {
    proper = makes.proper;
    calls = λ k within. (t.calls k, makes.calls.changed k within);
    slot = λ k within. (makes.slots.changed k within).0;
  }

  pub decide : (a : ℕ) (s : Standing) → ((t : Standing) × OwnStep nue keys a s t) ⊎ ((t : Standing) → OwnStep nue keys a s t → ⊥)
  decide a s = at (s.calls a) refl
    where
      the_step : (c : DataCall) (rest : List DataCall) → s.calls a ≡ c ∷ rest → (t : Standing) (x : CallStep) → owner_of x ≡ a → Makes nue keys x s t → x ≡ own_step a c
      the_step c rest is t x owner makes =
          let first = first_call nue keys x a s t owner makes in
          let called : call_at x a ≡ c = cc in
          sym (step_told x a owner) ∙ ap (own_step a) called

      at : (l : List DataCall) → s.calls a ≡ l → ((t : Standing) × OwnStep nue keys a s t) ⊎ ((t : Standing) → OwnStep nue keys a s t → ⊥)
      at [] is = inr (λ t own. let first = first_call nue keys own.0 a s t own.1 own.2 in cc)
      at (c ∷ rest) is =
          ⊎_elim
          (λ (ready : IsReady (own_step a c) s). inl (standing_after (own_step a c) s, (own_step a c, owner_of-own_step a c, ready_makes (own_step a c) s ready)))
          (λ (never : IsReady (own_step a c) s → ⊥).
          inr (λ t own. never (subst (λ (x : CallStep). IsReady x s) (the_step c rest is t own.0 own.1 own.2) (makes_ready own.0 s t own.2))))
          (decide_ready (own_step a c) s)
