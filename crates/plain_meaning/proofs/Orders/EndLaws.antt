-- Every order of steps comes to one end: the one to which the step with the lowest owner leads.
use Rattle.std.proofs.Common.{◌≡◌, ◌≢◌, ℕ, zero, suc, ◌+◌, ◌≤◌, Option, Some, None, length, refl, ap, ◌∙◌, subst, arith, sum_by, ⊎_elim}
use Rattle.std.specs.Option.{option_map_or, option_or}
use Rattle.std.proofs.lemmas.Bool.{cases_eq}
use Rattle.scc_base.specs.Runs.{EndsAt, IsStill, NoneBelow, Runs}
use Rattle.scc_base.proofs.Confluence as confluence
use Rattle.script_machine.specs.Next.{Next}
use Rattle.plain_meaning.specs.Step.{Configuration, IsStepOf, step_of, lowest, lowest_step, run_on}
use Rattle.plain_meaning.proofs.Runs.Costs.{Lowers}
use Rattle.plain_meaning.proofs.Orders.OrderLaws as orders
use Rattle.plain_meaning.proofs.Runs.RunLaws as runs

module _ {U : Type 0} (keys : ℕ → ℕ → ℕ) (next : U → Next U) where
  -- all orders come to one end, in one number of steps
  pub one_end : (n m : ℕ) (c e f : Configuration U) → Runs (IsStepOf keys next) (EndsAt (IsStepOf keys next) e) n c → Runs (IsStepOf keys next) (EndsAt (IsStepOf keys next) f) m c → (n ≡ m) × (e ≡ f)
  one_end = confluence.one_end (IsStepOf keys next) (orders.only_one keys next) (orders.either_order keys next)

  pub is_still : (c : Configuration U) → lowest_step keys next c ≡ None → IsStill (IsStepOf keys next) c
  is_still c none a t step = let no = runs.still keys next c none a in cc

  reached_by : (n : ℕ) (c : Configuration U) (o : Option (Configuration U)) → lowest_step keys next c ≡ o → lowest_step keys next (option_map_or (run_on keys next n) o c) ≡ None → ((d : Configuration U) → lowest_step keys next (run_on keys next n d) ≡ None → (m : ℕ) × Runs (IsStepOf keys next) (EndsAt (IsStepOf keys next) (run_on keys next n d)) m d) → (m : ℕ) × Runs (IsStepOf keys next) (EndsAt (IsStepOf keys next) (option_map_or (run_on keys next n) o c)) m c
  reached_by n c None e none rest = (0, (refl, is_still c none))
  reached_by n c (Some d) e none rest =
      let owned = runs.sound keys next c d e in
      let (m, run) = rest d none in
      (suc m, (owned.0, d, owned.1, run))

  -- the end of the steps with the lowest owners is one that steps come to
  pub reached : (n : ℕ) (c : Configuration U) → lowest_step keys next (run_on keys next n c) ≡ None → (m : ℕ) × Runs (IsStepOf keys next) (EndsAt (IsStepOf keys next) (run_on keys next n c)) m c
  reached zero c none = (0, (refl, is_still c none))
  reached (suc n) c none = reached_by n c (lowest_step keys next c) refl none (reached n)

  abbrev Lowest : Configuration U → Configuration U → Type 0
  Lowest c e = (b : ℕ) × NoneBelow (IsStepOf keys next) b c × (step_of keys next c b ≡ Some e)

  lowest_by : (c : Configuration U) (p : Option (Configuration U)) (i : ℕ) (e : Configuration U) (o : Option (Configuration U)) → NoneBelow (IsStepOf keys next) i c → step_of keys next c i ≡ o → option_or o p ≡ Some e → (NoneBelow (IsStepOf keys next) (i + 1) c → p ≡ Some e → Lowest c e) → Lowest c e
  lowest_by c p i e None none here is rest =
      rest
      (λ b below t step.
      ⊎_elim
      (λ (same : b ≡ i). absurd (let there : step_of keys next c i ≡ Some t = subst (λ (k : ℕ). step_of keys next c k ≡ Some t) same step in cc))
      (λ (apart : b ≢ i). none b (omega (arith, below, apart)) t step)
      (cases_eq b i))
      is
  lowest_by c p i e (Some d) none here is rest = (i, none, here ∙ is)

  -- the lowest owner from i on, where no owner below i has a step
  lowest_from : (c : Configuration U) (n i : ℕ) (e : Configuration U) → NoneBelow (IsStepOf keys next) i c → lowest keys next c n i ≡ Some e → Lowest c e
  lowest_from c zero i e none is = absurd (cc)
  lowest_from c (suc n) i e none is =
      lowest_by c (lowest keys next c n (i + 1)) i e (step_of keys next c i) none refl is (λ more there. lowest_from c n (i + 1) e more there)

  -- where a step is enabled, the one with the lowest owner is answered
  pub taken : (a : ℕ) (c d : Configuration U) → IsStepOf keys next a c d → (b : ℕ) × (e : Configuration U) × NoneBelow (IsStepOf keys next) b c × IsStepOf keys next b c e × (lowest_step keys next c ≡ Some e)
  taken a c d step = by (lowest_step keys next c) refl
    where
      by : (o : Option (Configuration U)) → lowest_step keys next c ≡ o → (b : ℕ) × (e : Configuration U) × NoneBelow (IsStepOf keys next) b c × IsStepOf keys next b c e × (lowest_step keys next c ≡ Some e)
      by None is = absurd (is_still c is a d step)
      by (Some e) is =
          let (b, none, owned) = lowest_from c (length c.cells) 0 e (λ k below t other. absurd (omega (arith, below))) is in
          (b, e, none, owned, is)

  module _ (cost : U → ℕ) (lowers : (u : U) → Lowers cost (cost u) (next u)) where
    -- every order is finite
    pub most_steps : (n : ℕ) (c d : Configuration U) → Runs (IsStepOf keys next) (λ e. e ≡ d) n c → n + sum_by cost d.cells ≤ sum_by cost c.cells
    most_steps zero c d same = let equal : sum_by cost c.cells ≡ sum_by cost d.cells = ap (λ (x : Configuration U). sum_by cost x.cells) same in omega (arith, equal)
    most_steps (suc n) c d (a, t, step, rest) =
        omega (arith, runs.falls keys next cost lowers c t a step, most_steps n t d rest)

    -- whatever step is taken on the way, the end is the same
    pub any_step : (a : ℕ) (c d : Configuration U) → IsStepOf keys next a c d → run_on keys next (sum_by cost d.cells) d ≡ run_on keys next (sum_by cost c.cells) c
    any_step a c d step =
        let there = runs.stopped keys next cost lowers (sum_by cost d.cells) d (omega arith) in
        let here = runs.stopped keys next cost lowers (sum_by cost c.cells) c (omega arith) in
        let (m, run) = reached (sum_by cost d.cells) d there in
        let (k, other) = reached (sum_by cost c.cells) c here in
        (one_end (suc m) k c (run_on keys next (sum_by cost d.cells) d) (run_on keys next (sum_by cost c.cells) c) (a, d, step, run) other).1
