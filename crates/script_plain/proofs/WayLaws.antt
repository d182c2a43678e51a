-- A run in which each rank goes on as far as it can: it is on the way to the plain end.
use Rattle.std.proofs.Common.{◌≡◌, ◌≢◌, ℕ, ◌+◌, ◌<◌, ◌≤◌, Bool, true, false, None, Some, length, sym, ◌∙◌, subst, arith, sum_by, ⊎_elim}
use Rattle.std.proofs.lemmas.Bool.{cases_eq, cases_lt}
use Rattle.script_plain.specs.Code.{GoesOn, IsOnTheWay, Moves, StepsAt, Sweeps}
use Rattle.script_machine.specs.Local.{Local, most_steps_left, local_next}
use Rattle.plain_meaning.specs.Step.{Configuration, step_of, lowest_step, run_on}
use Rattle.plain_meaning.proofs.Orders.EndLaws.{any_step}
use Rattle.plain_meaning.proofs.Runs.PlainLaws.{local_lowers}
use Rattle.plain_meaning.proofs.Runs.RunLaws.{complete, falls, no_more, past_none}

module _ (keys : ℕ → ℕ → ℕ) where
  on_the_way : (a b c : Configuration Local) → IsOnTheWay keys a b → IsOnTheWay keys b c → IsOnTheWay keys a c
  on_the_way a b c one two = record { same_end = two.same_end ∙ one.same_end; less = omega (arith, one.less, two.less) }

  step_on : (a b : Configuration Local) (i : ℕ) → step_of keys local_next a i ≡ Some b → IsOnTheWay keys a b
  step_on a b i step = record {
    same_end = any_step keys local_next most_steps_left local_lowers i a b step;
    less = falls keys local_next most_steps_left local_lowers a b i step;
  }

  way_after : (moved : Bool) (a b c : Configuration Local) → Moves keys moved a b → IsOnTheWay keys b c → IsOnTheWay keys a c
  way_after true a b c far more = on_the_way a b c far more
  way_after false a b c same more = subst (λ (x : Configuration Local). IsOnTheWay keys x c) same more

  -- one step more
  pub further : (moved took : Bool) (i : ℕ) (a b c : Configuration Local) → Moves keys moved a b → took ≡ true → StepsAt keys took i b c → IsOnTheWay keys a c
  further moved took i a b c far is step =
      way_after moved a b c far (step_on b c i (subst (λ (t : Bool). StepsAt keys t i b c) is step))

  -- after which less is left
  pub step_less : (took : Bool) (i : ℕ) (b c : Configuration Local) → took ≡ true → StepsAt keys took i b c → sum_by most_steps_left c.cells < sum_by most_steps_left b.cells
  step_less took i b c is step = falls keys local_next most_steps_left local_lowers b c i (subst (λ (t : Bool). StepsAt keys t i b c) is step)

  rests_by : (moved : Bool) (i : ℕ) (a b c : Configuration Local) → Moves keys moved a b → (step_of keys local_next b i ≡ None) × (c ≡ b) → GoesOn keys moved i a c
  rests_by true i a b c far none = subst (λ (x : Configuration Local). IsOnTheWay keys a x) (sym none.1) far
  rests_by false i a b c same none =
      (subst (λ (x : Configuration Local). step_of keys local_next x i ≡ None) same none.0, none.1 ∙ same)

  -- or no more
  pub rests : (moved took : Bool) (i : ℕ) (a b c : Configuration Local) → Moves keys moved a b → took ≡ false → StepsAt keys took i b c → GoesOn keys moved i a c
  rests moved took i a b c far is step =
      rests_by moved i a b c far (subst (λ (t : Bool). StepsAt keys t i b c) is step)

  swept_far : (moved : Bool) (n : ℕ) (a b : Configuration Local) → Sweeps keys moved n a b → Moves keys moved a b
  swept_far true n a b far = far
  swept_far false n a b rest = rest.1

  -- one rank more, which went on
  pub swept_on : (moved went : Bool) (n i : ℕ) (a b c : Configuration Local) → Sweeps keys moved n a b → went ≡ true → GoesOn keys went i b c → IsOnTheWay keys a c
  swept_on moved went n i a b c swept is goes =
      way_after moved a b c (swept_far moved n a b swept) (subst (λ (t : Bool). GoesOn keys t i b c) is goes)

  passed_by : (moved : Bool) (n i : ℕ) (a b c : Configuration Local) → i ≡ n → Sweeps keys moved n a b → (step_of keys local_next b i ≡ None) × (c ≡ b) → Sweeps keys moved (n + 1) a c
  passed_by true n i a b c at swept none = subst (λ (x : Configuration Local). IsOnTheWay keys a x) (sym none.1) swept
  passed_by false n i a b c at swept none =
      let here : step_of keys local_next a n ≡ None =
      subst (λ (k : ℕ). step_of keys local_next a k ≡ None) at (subst (λ (x : Configuration Local). step_of keys local_next x i ≡ None) swept.1 none.0) in (
        λ k below.
            ⊎_elim
            (λ (same : k ≡ n). subst (λ (m : ℕ). step_of keys local_next a m ≡ None) (sym same) here)
            (λ (apart : k ≢ n). swept.0 k (omega (arith, below, apart)))
            (cases_eq k n),
        none.1 ∙ swept.1,
      )

  -- or which owns no enabled step
  pub swept_past : (moved went : Bool) (n i : ℕ) (a b c : Configuration Local) → i ≡ n → Sweeps keys moved n a b → went ≡ false → GoesOn keys went i b c → Sweeps keys moved (n + 1) a c
  swept_past moved went n i a b c at swept is goes =
      passed_by moved n i a b c at swept (subst (λ (t : Bool). GoesOn keys t i b c) is goes)

  -- a sweep in which no rank moves ends the run
  pub swept_none : (moved : Bool) (n : ℕ) (a b : Configuration Local) → length a.cells ≡ n → moved ≡ false → Sweeps keys moved n a b → (b ≡ a) × (lowest_step keys local_next a ≡ None) × (lowest_step keys local_next b ≡ None)
  swept_none moved n a b many is swept =
      let rest = subst (λ (t : Bool). Sweeps keys t n a b) is swept in
      let none : lowest_step keys local_next a ≡ None = complete keys local_next a (λ k.
      ⊎_elim
      (λ (within : k < n). rest.0 k within)
      (λ (past : n ≤ k). past_none keys local_next a k (omega (arith, many, past)))
      (cases_lt k n)) in
      (rest.1, none, subst (λ (x : Configuration Local). lowest_step keys local_next x ≡ None) (sym rest.1) none)

  pub swept_some : (moved : Bool) (n : ℕ) (a b : Configuration Local) → moved ≡ true → Sweeps keys moved n a b → IsOnTheWay keys a b
  swept_some moved n a b is swept = subst (λ (t : Bool). Sweeps keys t n a b) is swept

  -- where no step is enabled the run has ended
  pub run_ended : (c : Configuration Local) (n : ℕ) → lowest_step keys local_next c ≡ None → c ≡ run_on keys local_next n c
  run_ended c n none = sym (no_more keys local_next most_steps_left local_lowers n c none)
