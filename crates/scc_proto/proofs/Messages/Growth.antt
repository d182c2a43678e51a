-- How lists of calls grow by the calls of one step: what each rank's list gains, and what happens to the slot.
use Rattle.std.proofs.Common.{◌≡◌, ◌≢◌, ℕ, ◌==◌, Bool, true, false, if◌then◌else◌, true≢false, List, [], ◌∷◌, ◌++◌, Option, Some, None, ⊎_elim, sym, ◌∙◌, ap, subst, append-nil, arith}
use Rattle.std.proofs.lemmas.Bool.Decides.{nat_tests}
use Rattle.scc_base.specs.Calls.{DataCall, Send, Recv, Post, Bar}
use Rattle.scc_base.specs.Changes.{both}
use Rattle.scc_base.proofs.ChangeLaws.{true_or_false}
use Rattle.scc_proto.specs.Legality.{Outgoing, CallStep, Posting, Taking, Pairing, Meeting, in_group, IsFirst, callers, call_at, looks_at_slot, slot_after, calls_of_step, slots_after, CanFollow, Grows, ByStep}

module _ (nue : ℕ) (keys : ℕ → ℕ → ℕ) where
  pub calls_of-in : (step : CallStep) (k : ℕ) → callers nue keys step k ≡ true → calls_of_step nue keys step k ≡ call_at step k ∷ []
  calls_of-in step k within = ap (λ (b : Bool). if b then call_at step k ∷ [] else []) within

  pub calls_of-out : (step : CallStep) (k : ℕ) → callers nue keys step k ≡ false → calls_of_step nue keys step k ≡ []
  calls_of-out step k without = ap (λ (b : Bool). if b then call_at step k ∷ [] else []) without

  -- each caller's list gains its call, and no other list changes
  pub grows_by : (old new : ℕ → List DataCall) (old_slots new_slots : ℕ → Option Outgoing) (step : CallStep) → CanFollow nue keys step old_slots
      → ((k : ℕ) → callers nue keys step k ≡ true → new k ≡ old k ++ call_at step k ∷ [])
      → ((k : ℕ) → callers nue keys step k ≡ false → new k ≡ old k)
      → ((k : ℕ) → looks_at_slot step k ≡ true → new_slots k ≡ slot_after step)
      → ((k : ℕ) → looks_at_slot step k ≡ false → new_slots k ≡ old_slots k)
      → Grows nue keys old old_slots new new_slots
  grows_by old new old_slots new_slots step can gain stay slot slots = ByStep step can calls left
    where
      calls : (k : ℕ) → new k ≡ old k ++ calls_of_step nue keys step k
      calls k =
          ⊎_elim
          (λ (is : callers nue keys step k ≡ true). gain k is ∙ ap (λ (l : List DataCall). old k ++ l) (sym (calls_of-in step k is)))
          (λ (is : callers nue keys step k ≡ false). stay k is ∙ sym (append-nil (old k)) ∙ ap (λ (l : List DataCall). old k ++ l) (sym (calls_of-out step k is)))
          (true_or_false (callers nue keys step k))

      left : (k : ℕ) → new_slots k ≡ slots_after step old_slots k
      left k =
          ⊎_elim
          (λ (is : looks_at_slot step k ≡ true). slot k is ∙ sym (ap (λ (b : Bool). if b then slot_after step else old_slots k) is))
          (λ (is : looks_at_slot step k ≡ false). slots k is ∙ sym (ap (λ (b : Bool). if b then slot_after step else old_slots k) is))
          (true_or_false (looks_at_slot step k))

  only_in : (A : ℕ → Type 0) (i k : ℕ) → A i → (k == i) ≡ true → A k
  only_in A i k holds is = let same : i ≡ k = grind (arith, nat_tests) in subst A same holds

  other_than : (i k : ℕ) → (k == i) ≡ false → k ≢ i
  other_than i k is = grind (arith, nat_tests)

  -- a rank posts a message
  pub grows_by_post : (old new : ℕ → List DataCall) (old_slots new_slots : ℕ → Option Outgoing) (i : ℕ) (m : Outgoing)
      → old_slots i ≡ None → new i ≡ old i ++ Post m.to m.head m.bytes ∷ [] → ((k : ℕ) → k ≢ i → new k ≡ old k)
      → new_slots i ≡ Some m → ((k : ℕ) → k ≢ i → new_slots k ≡ old_slots k)
      → Grows nue keys old old_slots new new_slots
  grows_by_post old new old_slots new_slots i m empty gain stay full slots =
      grows_by old new old_slots new_slots (Posting i m)
      (record { proper = tt; slot = λ k is. only_in (λ x. old_slots x ≡ None) i k empty is })
      (λ k is. only_in (λ x. new x ≡ old x ++ Post m.to m.head m.bytes ∷ []) i k gain is)
      (λ k is. stay k (other_than i k is))
      (λ k is. only_in (λ x. new_slots x ≡ Some m) i k full is)
      (λ k is. slots k (other_than i k is))

  -- a posted message is received
  pub grows_by_take : (old new : ℕ → List DataCall) (old_slots new_slots : ℕ → Option Outgoing) (i : ℕ) (m : Outgoing)
      → old_slots i ≡ Some m → new m.to ≡ old m.to ++ Recv i m.head m.bytes ∷ [] → ((k : ℕ) → k ≢ m.to → new k ≡ old k)
      → new_slots i ≡ None → ((k : ℕ) → k ≢ i → new_slots k ≡ old_slots k)
      → Grows nue keys old old_slots new new_slots
  grows_by_take old new old_slots new_slots i m full gain stay empty slots =
      grows_by old new old_slots new_slots (Taking i m)
      (record { proper = tt; slot = λ k is. only_in (λ x. old_slots x ≡ Some m) i k full is })
      (λ k is. only_in (λ x. new x ≡ old x ++ Recv i m.head m.bytes ∷ []) m.to k gain is)
      (λ k is. stay k (other_than m.to k is))
      (λ k is. only_in (λ x. new_slots x ≡ None) i k empty is)
      (λ k is. slots k (other_than i k is))

  -- a sent message is received
  pub grows_by_pair : (old new : ℕ → List DataCall) (old_slots new_slots : ℕ → Option Outgoing) (i : ℕ) (m : Outgoing)
      → i ≢ m.to → old_slots i ≡ None
      → new i ≡ old i ++ Send m.to m.head m.bytes ∷ [] → new m.to ≡ old m.to ++ Recv i m.head m.bytes ∷ []
      → ((k : ℕ) → k ≢ i → k ≢ m.to → new k ≡ old k) → ((k : ℕ) → new_slots k ≡ old_slots k)
      → Grows nue keys old old_slots new new_slots
  grows_by_pair old new old_slots new_slots i m apart empty sends receives stay slots =
      grows_by old new old_slots new_slots (Pairing i m)
      (record { proper = apart; slot = λ k is. only_in (λ x. old_slots x ≡ None) i k empty is })
      gain
      (λ k is. stay k (not_first k is) (not_second k is))
      (λ k is. slots k ∙ only_in (λ x. old_slots x ≡ None) i k empty is)
      (λ k is. slots k)
    where
      not_first : (k : ℕ) → both i m.to k ≡ false → k ≢ i
      not_first k is = grind (arith, nat_tests)

      not_second : (k : ℕ) → both i m.to k ≡ false → k ≢ m.to
      not_second k is = grind (arith, nat_tests)

      the_receiver : (k : ℕ) → both i m.to k ≡ true → (k == i) ≡ false → m.to ≡ k
      the_receiver k is other = grind (arith, nat_tests)

      gain : (k : ℕ) → both i m.to k ≡ true → new k ≡ old k ++ call_at (Pairing i m) k ∷ []
      gain k is =
          ⊎_elim
          (λ (at : (k == i) ≡ true).
          only_in (λ x. new x ≡ old x ++ Send m.to m.head m.bytes ∷ []) i k sends at
          ∙ ap (λ (b : Bool). old k ++ (if b then Send m.to m.head m.bytes else Recv i m.head m.bytes) ∷ []) (sym at))
          (λ (at : (k == i) ≡ false).
          subst (λ (x : ℕ). new x ≡ old x ++ Recv i m.head m.bytes ∷ []) (the_receiver k is at) receives
          ∙ ap (λ (b : Bool). old k ++ (if b then Send m.to m.head m.bytes else Recv i m.head m.bytes) ∷ []) (sym at))
          (true_or_false (k == i))

  -- all members of a group meet in a barrier
  pub grows_by_barrier : (old new : ℕ → List DataCall) (old_slots new_slots : ℕ → Option Outgoing) (comm root : ℕ)
      → IsFirst nue keys comm root
      → ((k : ℕ) → in_group nue keys comm root k ≡ true → new k ≡ old k ++ Bar comm ∷ [])
      → ((k : ℕ) → in_group nue keys comm root k ≡ false → new k ≡ old k)
      → ((k : ℕ) → new_slots k ≡ old_slots k)
      → Grows nue keys old old_slots new new_slots
  grows_by_barrier old new old_slots new_slots comm root first gain stay slots =
      grows_by old new old_slots new_slots (Meeting comm root)
      (record { proper = first; slot = λ k is. absurd (true≢false (sym is)) })
      gain stay
      (λ k is. absurd (true≢false (sym is)))
      (λ k is. slots k)
