-- Laws of what stands at the place of a course: how many marks its item has, and whether one is the end of a pass.
use Rattle.std.proofs.Common.{◌≡◌, ℕ, ◌+◌, ◌<◌, ◌≤◌, ◌⊎◌, inl, inr, Bool, false, List, length, drop, get_or, slice_get, Option, None, Some, refl, sym, ap, subst, ◌∙◌}
use Rattle.std.proofs.lemmas.Option.{slice_get_past, slice_get_cases}
use Rattle.scc_base.specs.Setups.{SetupView}
use Rattle.script_rules.specs.declared.script.Item.{Item}
use Rattle.script_rules.specs.declared.effect.Nesting.{Nesting}
use Rattle.script_rules.specs.declared.effect.Nesting.TheVariants as nesting
use Rattle.script_machine.specs.declared.course.Open.{Open}
use Rattle.script_machine.specs.Program.{Prim}
use Rattle.script_machine.specs.Walk.{HasMoreMarks, IsStand, is_closing, is_end, is_pass_end, left_at, passed_to, repeats_after_marks}
use Rattle.script_machine.proofs.Walks.WalkLaws.{at_end, nothing_past, stands_there}

-- behind the marks of an item that ends no pass the next item stands, and the same repeats are open
pub passed_on : (n : Nesting) (at end : ℕ) (repeats : List Open) → is_closing n ≡ false → passed_to n at end repeats ≡ at + 1
passed_on (nesting.Opens times) at end repeats other = refl
passed_on (nesting.Closes start) at end repeats other = absurd (cc)
passed_on nesting.Stays at end repeats other = refl

pub open_on : (n : Nesting) (repeats : List Open) → is_closing n ≡ false → repeats_after_marks n repeats ≡ repeats
open_on (nesting.Opens times) repeats other = refl
open_on (nesting.Closes start) repeats other = absurd (cc)
open_on nesting.Stays repeats other = refl

-- what stands at a place is what the item there is
pub stand_of : (s : SetupView) (rank : ℕ) (items : List Item) (at count : ℕ) (closes : Bool) (item : Item) → slice_get items at ≡ Some item → IsStand s rank (slice_get items at) count closes
    → IsStand s rank (Some item) count closes
stand_of s rank items at count closes item here stand = let P : Option Item → Type 0 = λ o. IsStand s rank o count closes in subst P here stand

pub stand_at : (s : SetupView) (rank : ℕ) (items : List Item) (at count : ℕ) (closes : Bool) (item : Item) → slice_get items at ≡ Some item → IsStand s rank (Some item) count closes
    → IsStand s rank (slice_get items at) count closes
stand_at s rank items at count closes item here stand = let P : Option Item → Type 0 = λ o. IsStand s rank o count closes in subst P (sym here) stand

pub stand_past : (s : SetupView) (rank : ℕ) (items : List Item) (at : ℕ) → length items ≤ at → IsStand s rank (slice_get items at) 0 false
stand_past s rank items at past = let P : Option Item → Type 0 = λ o. IsStand s rank o 0 false in subst P (sym (slice_get_past items at past)) (record { count_is = refl; closes_is = refl })

-- whether the end of a pass comes next, by what stands there
pub end_there : (s : SetupView) (rank : ℕ) (items : List Item) (at step : ℕ) (repeats : List Open) → HasMoreMarks s rank items at step
    → is_pass_end rank (slice_get items at) ≡ is_end (slice_get (drop step (left_at s rank items at repeats)) 0)
end_there s rank items at step repeats stands = by (slice_get_cases items at).1
  where
    by : ((x : Item) × (at < length items) × (slice_get items at ≡ Some x) × (get_or items at x ≡ x)) ⊎ ((length items ≤ at) × (slice_get items at ≡ None))
        → is_pass_end rank (slice_get items at) ≡ is_end (slice_get (drop step (left_at s rank items at repeats)) 0)
    by (inl found) =
        let here = found.2 in
        ap (is_pass_end rank) here ∙ sym (at_end s rank items at step found.0 repeats here (stands_there s rank items at step found.0 here stands))
    by (inr past) =
        ap (is_pass_end rank) past.1 ∙ sym (ap (λ (l : List (Option Prim)). is_end (slice_get l 0)) (nothing_past s rank items at step repeats past.0))
