-- Steps of different owners do not disturb each other: so every order of steps comes to one end.
use Rattle.std.proofs.Common.{◌≡◌, ◌≢◌, ◌⊎◌, ℕ, zero, suc, ◌<◌, inl, inr, ⊎_elim, refl, sym, ◌∙◌, ap, subst, arith}
use Rattle.scc_base.specs.Runs.{Runs, RunsLowest, NoneBelow, IsStill, EndsAt}

-- two numbers are equal, or they are not
pub equal_or_not : (a b : ℕ) → (a ≡ b) ⊎ (a ≢ b)
equal_or_not a b = grind arith

-- a number below a successor is the number itself or below it
pub last_or_below : (b n : ℕ) → b < suc n → (b ≡ n) ⊎ (b < n)
last_or_below b n below = grind arith

-- the steps lowest owner first are steps
pub in_some_order : {S : Type 0} (Step : ℕ → S → S → Type 0) (IsEnd : S → Type 0) (n : ℕ) (s : S) → RunsLowest Step IsEnd n s → Runs Step IsEnd n s
in_some_order Step IsEnd zero s end = end
in_some_order Step IsEnd (suc n) s (a, t, lowest, step, rest) = (a, t, step, in_some_order Step IsEnd n t rest)

-- the run ends in another kind of end
pub other_end : {S : Type 0} (Step : ℕ → S → S → Type 0) (IsEnd IsOther : S → Type 0) → ((s : S) → IsEnd s → IsOther s) → (n : ℕ) (s : S) → Runs Step IsEnd n s → Runs Step IsOther n s
other_end Step IsEnd IsOther turns zero s end = turns s end
other_end Step IsEnd IsOther turns (suc n) s (a, t, step, rest) = (a, t, step, other_end Step IsEnd IsOther turns n t rest)

-- one run after the other
pub joined_runs : {S : Type 0} (Step : ℕ → S → S → Type 0) (IsEnd : S → Type 0) (n m : ℕ) (s t : S) → Runs Step (λ x. x ≡ t) n s → Runs Step IsEnd m t → (k : ℕ) × Runs Step IsEnd k s
joined_runs Step IsEnd zero m s t end rest = (m, subst (Runs Step IsEnd m) (sym end) rest)
joined_runs Step IsEnd (suc n) m s t (a, u, step, begun) rest =
    let (k, whole) = joined_runs Step IsEnd n m u t begun rest in (suc k, (a, u, step, whole))

-- an owner has at most one step, and the steps of two owners can be taken in either order
module _ {S : Type 0} (Step : ℕ → S → S → Type 0)
    (only_one : (a : ℕ) (s t u : S) → Step a s t → Step a s u → t ≡ u)
    (either_order : (a b : ℕ) (s t u : S) → a ≢ b → Step a s t → Step b s u → (v : S) × Step b t v × Step a u v)
  where
    -- whatever step can be taken can be taken first
    pub any_first : (IsEnd : S → Type 0) → ((s : S) → IsEnd s → IsStill Step s) → (n a : ℕ) (s t : S) → Runs Step IsEnd n s → Step a s t → (k : ℕ) × (n ≡ suc k) × Runs Step IsEnd k t
    any_first IsEnd still zero a s t end step = absurd (still s end a t step)
    any_first IsEnd still (suc n) a s t (b, u, other, rest) step =
        ⊎_elim
        (λ (same : a ≡ b). let here : u ≡ t = only_one b s u t other (subst (λ (x : ℕ). Step x s t) same step) in (n, refl, subst (Runs Step IsEnd n) here rest))
        (λ (apart : a ≢ b).
        let (v, other_then, step_then) = either_order a b s t u apart step other in
        let (k, is, run) = any_first IsEnd still n a u v rest step_then in
        (n, refl, subst (λ (m : ℕ). Runs Step IsEnd m t) (sym is) (b, v, other_then, run)))
        (equal_or_not a b)

    -- all runs to their ends have one length and one end
    pub one_end : (n m : ℕ) (s e f : S) → Runs Step (EndsAt Step e) n s → Runs Step (EndsAt Step f) m s → (n ≡ m) × (e ≡ f)
    one_end zero zero s e f (at, still) (other_at, other_still) = (refl, sym at ∙ other_at)
    one_end zero (suc m) s e f (at, still) (a, t, step, rest) = absurd (still a t step)
    one_end (suc n) m s e f (a, t, step, rest) run =
        let (k, is, short) = any_first (EndsAt Step f) (λ x end. end.1) m a s t run step in
        let (length_is, end_is) = one_end n k t e f rest short in
        (ap suc length_is ∙ sym is, end_is)

    module _ (decide : (a : ℕ) (s : S) → ((t : S) × Step a s t) ⊎ ((t : S) → Step a s t → ⊥)) where
      -- among the owners below n the lowest that has a step, or none has one
      lowest_below : (n : ℕ) (s : S) → NoneBelow Step n s ⊎ ((a : ℕ) × (t : S) × NoneBelow Step a s × Step a s t)
      lowest_below zero s = inl (λ b below. absurd (omega (arith, below)))
      lowest_below (suc n) s =
          ⊎_elim
          (λ (none : NoneBelow Step n s).
          ⊎_elim
          (λ (found : (t : S) × Step n s t). inr (n, found.0, none, found.1))
          (λ (no : (t : S) → Step n s t → ⊥).
          inl (λ b below t step.
          ⊎_elim
          (λ (is : b ≡ n). no t (subst (λ (x : ℕ). Step x s t) is step))
          (λ (lower : b < n). none b lower t step)
          (last_or_below b n below)))
          (decide n s))
          (λ (found : (a : ℕ) × (t : S) × NoneBelow Step a s × Step a s t). inr found)
          (lowest_below n s)

      lowest : (b : ℕ) (s u : S) → Step b s u → (a : ℕ) × (t : S) × NoneBelow Step a s × Step a s t
      lowest b s u step =
          ⊎_elim
          (λ (none : NoneBelow Step (suc b) s). absurd (none b (omega arith) u step))
          (λ (found : (a : ℕ) × (t : S) × NoneBelow Step a s × Step a s t). found)
          (lowest_below (suc b) s)

      -- what some order does, the order lowest owner first does too
      pub lowest_first : (IsEnd : S → Type 0) → ((s : S) → IsEnd s → IsStill Step s) → (n : ℕ) (s : S) → Runs Step IsEnd n s → RunsLowest Step IsEnd n s
      lowest_first IsEnd still zero s end = end
      lowest_first IsEnd still (suc n) s (b, u, other, rest) =
          let (a, t, none, step) = lowest b s u other in
          let (k, is, run) = any_first IsEnd still (suc n) a s t (b, u, other, rest) step in
          (a, t, none, step, lowest_first IsEnd still n t (subst (λ (m : ℕ). Runs Step IsEnd m t) (sym (suc_same n k is)) run))
        where
          suc_same : (n k : ℕ) → suc n ≡ suc k → n ≡ k
          suc_same n k is = omega (arith, is)
