-- A turn that waits made one try in vain, by a step of the chip's memory at a known point of its events.
use Rattle.std.proofs.Common.{◌≡◌, ℕ, suc, Bool, true, false, not, ◌&&◌, ◌||◌, if◌then◌else◌, List, [], ◌∷◌, ◌++◌, refl, sym, ap, ◌∙◌, subst, arith, append_assoc, append-nil}
use Rattle.scc_base.specs.declared.events.Event.{Event}
use Rattle.put_get.specs.Accesses.{WereSteps}
use Rattle.sync_flags.specs.Tries.{Aim, all_failed, changing_after, is_changing, is_try, has_failed, tries_from}

-- among these events, the try, which was vain and a step made after the events before it
pub record FailedStep (stepped : List Event → Event → Type 0) (past : List Event) (aim : Aim) (changing : Bool) (events : List Event) : Type 0 where
  pub before : List Event
  pub event : Event
  pub afterwards : List Event
  pub is : events ≡ before ++ event ∷ afterwards
  pub try_is : is_try (changing_after changing before) aim event ≡ true
  pub failed : has_failed aim event ≡ true
  pub step : stepped (past ++ before) event

both_true : (a b : Bool) → (a && b) ≡ true → (a ≡ true) × (b ≡ true)
both_true true b is = (refl, is)
both_true false b is = absurd (cc)

failed_by : (tried failed : Bool) → tried ≡ true → (not tried || failed) ≡ true → failed ≡ true
failed_by true failed is either = either
failed_by false failed is either = absurd (cc)

none_more : (n : ℕ) → n ≡ suc n → ⊥
none_more n is = omega (arith, is)

count_if : (b : Bool) (n : ℕ) → b ≡ false → (if b then suc n else n) ≡ n
count_if true n is = absurd (cc)
count_if false n is = refl

later : (stepped : List Event → Event → Type 0) (past : List Event) (aim : Aim) (changing : Bool) (e : Event) (es : List Event)
    → FailedStep stepped (past ++ e ∷ []) aim (is_changing changing e.access e.value) es → FailedStep stepped past aim changing (e ∷ es)
later stepped past aim changing e es rest = record {
  before = e ∷ rest.before;
  event = rest.event;
  afterwards = rest.afterwards;
  is = ap (λ (l : List Event). e ∷ l) rest.is;
  try_is = rest.try_is;
  failed = rest.failed;
  step = subst (λ (l : List Event). stepped l rest.event) (append_assoc past (e ∷ []) rest.before) rest.step;
}

pub found : (stepped : List Event → Event → Type 0) (past : List Event) (aim : Aim) (changing : Bool) (n : ℕ) (events : List Event) → tries_from aim changing n events ≡ suc n
    → all_failed aim changing events ≡ true → WereSteps stepped past events → FailedStep stepped past aim changing events
found stepped past aim changing n [] one failed steps = absurd (none_more n one)
found stepped past aim changing n (e ∷ es) one failed steps =
    by (is_try changing aim e) refl
    (λ same. found stepped (past ++ e ∷ []) aim (is_changing changing e.access e.value) n es
    (ap (λ (k : ℕ). tries_from aim (is_changing changing e.access e.value) k es) (sym (count_if (is_try changing aim e) n same)) ∙ one)
    (both_true (not (is_try changing aim e) || has_failed aim e) (all_failed aim (is_changing changing e.access e.value) es) failed).1 steps.1)
  where
    by : (b : Bool) → is_try changing aim e ≡ b → (is_try changing aim e ≡ false → FailedStep stepped (past ++ e ∷ []) aim (is_changing changing e.access e.value) es) → FailedStep stepped past aim changing (e ∷ es)
    by true is rest = record {
      before = [];
      event = e;
      afterwards = es;
      is = refl;
      try_is = is;
      failed = failed_by (is_try changing aim e) (has_failed aim e) is (both_true (not (is_try changing aim e) || has_failed aim e) (all_failed aim (is_changing changing e.access e.value) es) failed).0;
      step = subst (λ (l : List Event). stepped l e) (sym (append-nil past)) steps.0;
    }
    by false is rest = later stepped past aim changing e es (rest is)
