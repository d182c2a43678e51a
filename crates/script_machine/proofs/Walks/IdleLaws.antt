-- Laws of a walk past items of other ranks: what is left stays as it is.
use Rattle.std.proofs.Common.{◌≡◌, ℕ, zero, suc, ◌+◌, ◌<◌, ◌≤◌, ◌⊎◌, inl, inr, Bool, false, cond, List, [], map, length, drop, get_or, slice_get, Option, None, Some, refl, sym, ap, ◌∙◌, arith}
use Rattle.std.proofs.lemmas.Bool.{cases_lt}
use Rattle.std.proofs.lemmas.Option.{slice_get_cases}
use Rattle.scc_base.specs.Setups.{SetupView}
use Rattle.script_rules.specs.declared.script.Item.{Item}
use Rattle.script_rules.specs.Effects.{effect_of}
use Rattle.script_rules.specs.Script.{has_rank}
use Rattle.script_rules.specs.declared.effect.Nesting.{Nesting}
use Rattle.script_rules.specs.declared.effect.Nesting.TheVariants as nesting
use Rattle.script_machine.specs.declared.course.Open.{Open}
use Rattle.script_machine.specs.Depths.{IsDeep, IsIdleFrom, IsIdleTo, depth_after, depth_at}
use Rattle.script_machine.specs.Program.{Act, Prim, Unrolled, acts_of, in_front, unrolled_marks, marks_by, marks_of, nesting_at, prims_of}
use Rattle.script_machine.specs.Walk.{again, left_at, left_of, repeats_after_begin}
use Rattle.script_machine.proofs.Walks.DepthLaws.{depth_next, depth_past}
use Rattle.script_machine.proofs.Walks.WalkLaws.{over_same, past_same, marked-at, marked-past}

idle_prims : (s : SetupView) (rank : ℕ) (item : Item) → has_rank item.who rank ≡ false → prims_of s rank item ≡ []
idle_prims s rank item idle = ap (λ (b : Bool). cond b (map (λ (act : Act). record { line = item.line; act = act }) (acts_of s rank item.stmt)) []) idle

-- an item of another rank does nothing to the repeats, and has no marks
pub idle_stays : (rank : ℕ) (item : Item) → has_rank item.who rank ≡ false → nesting_at rank item ≡ nesting.Stays
idle_stays rank item idle = ap (λ (b : Bool). cond b (effect_of item.stmt).nesting nesting.Stays) idle

pub idle_none : (s : SetupView) (rank : ℕ) (item : Item) → has_rank item.who rank ≡ false → marks_of s rank item ≡ []
idle_none s rank item idle =
    ap (λ (n : Nesting). marks_by n (prims_of s rank item)) (idle_stays rank item idle) ∙ ap (λ (l : List Prim). marks_by nesting.Stays l) (idle_prims s rank item idle)

-- from a place on from which no item is one of the rank, nothing is made
marked-idle : (s : SetupView) (rank : ℕ) (items : List Item) (end : ℕ) → IsIdleFrom rank items end → (more at : ℕ) → end ≤ at → length items ≤ at + more → unrolled_marks s rank (drop at items) ≡ record { here = []; afterwards = [] }
marked-idle s rank items end idle zero at past all = marked-past s rank items at (omega (arith, all))
marked-idle s rank items end idle (suc more) at past all =
    by (marked-idle s rank items end idle more (at + 1) (omega (arith, past)) (omega (arith, all))) (slice_get_cases items at).1
  where
    by : unrolled_marks s rank (drop (at + 1) items) ≡ record { here = []; afterwards = [] }
        → ((item : Item) × (at < length items) × (slice_get items at ≡ Some item) × (get_or items at item ≡ item)) ⊎ ((length items ≤ at) × (slice_get items at ≡ None))
        → unrolled_marks s rank (drop at items) ≡ record { here = []; afterwards = [] }
    by on (inr none) = marked-past s rank items at none.0
    by on (inl found) =
        let item = found.0 in
        let here = found.2 in
        let u = unrolled_marks s rank (drop (at + 1) items) in
        let other = idle.idle at item past here in
        marked-at s rank items at item here ∙ ap (λ (n : Nesting). in_front n (marks_of s rank item) u) (idle_stays rank item other)
        ∙ ap (λ (l : List (Option Prim)). in_front nesting.Stays l u) (idle_none s rank item other)
        ∙ on

pub nothing_left : (s : SetupView) (rank : ℕ) (items : List Item) (at : ℕ) (repeats : List Open) → length items ≤ at → left_at s rank items at repeats ≡ []
nothing_left s rank items at repeats past =
    ap (λ (u : Unrolled (Option Prim)). left_of u (map (again s rank items) repeats)) (marked-past s rank items at past)

pub left-idle : (s : SetupView) (rank : ℕ) (items : List Item) (end at : ℕ) (repeats : List Open) → IsIdleFrom rank items end → end ≤ at → left_at s rank items at repeats ≡ []
left-idle s rank items end at repeats idle past =
    ap (λ (u : Unrolled (Option Prim)). left_of u (map (again s rank items) repeats)) (marked-idle s rank items end idle (length items) at past (omega arith))

-- up to a place before which no item is one of the rank, everything is left
pub left-first : (s : SetupView) (rank : ℕ) (items : List Item) (first : ℕ) → IsIdleTo rank items first → left_at s rank items first [] ≡ left_at s rank items 0 []
left-first s rank items zero idle = refl
left-first s rank items (suc at) idle = by (slice_get_cases items at).1 ∙ left-first s rank items at (λ place item before. idle place item (omega (arith, before)))
  where
    by : ((item : Item) × (at < length items) × (slice_get items at ≡ Some item) × (get_or items at item ≡ item)) ⊎ ((length items ≤ at) × (slice_get items at ≡ None))
        → left_at s rank items (suc at) [] ≡ left_at s rank items at []
    by (inr none) = past_same s rank items at (suc at) [] none.0 (omega (arith, none.0))
    by (inl found) =
        let item = found.0 in
        let here = found.2 in
        let other = idle at item (omega arith) here in
        let next : suc at ≡ at + 1 = omega arith in
        ap (λ (n : ℕ). left_at s rank items n []) next
        ∙ over_same s rank items at item [] [] here (ap length (idle_none s rank item other)) (sym (ap (λ (n : Nesting). repeats_after_begin n at []) (idle_stays rank item other)))

-- and as many repeats are open there as at the end
depth-idle : (rank : ℕ) (items : List Item) (end : ℕ) → IsIdleFrom rank items end → (more at : ℕ) → end ≤ at → length items ≤ at + more → depth_at rank items at ≡ depth_at rank items (length items)
depth-idle rank items end idle zero at past all = depth_past rank items at (omega (arith, all))
depth-idle rank items end idle (suc more) at past all =
    by (depth-idle rank items end idle more (at + 1) (omega (arith, past)) (omega (arith, all))) (slice_get_cases items at).1
  where
    by : depth_at rank items (at + 1) ≡ depth_at rank items (length items)
        → ((item : Item) × (at < length items) × (slice_get items at ≡ Some item) × (get_or items at item ≡ item)) ⊎ ((length items ≤ at) × (slice_get items at ≡ None))
        → depth_at rank items at ≡ depth_at rank items (length items)
    by on (inr none) = depth_past rank items at none.0
    by on (inl found) =
        let item = found.0 in
        let here = found.2 in
        sym (depth_next rank items at item here ∙ ap (λ (n : Nesting). depth_after n (depth_at rank items at)) (idle_stays rank item (idle.idle at item past here)))
        ∙ on

pub deep-idle : (rank : ℕ) (items : List Item) (end at to : ℕ) (repeats : List Open) → IsIdleFrom rank items end → end ≤ at → length items ≤ to → IsDeep rank items at repeats → IsDeep rank items to repeats
deep-idle rank items end at to repeats idle past there deep =
    record {
      here = omega (arith, deep.here, depth-idle rank items end idle (length items) at past (omega arith), depth_past rank items to there);
      held = deep.held;
    }

-- one item more that is none of the rank
pub idle_more : (rank : ℕ) (items : List Item) (end at : ℕ) (item : Item) → ((place : ℕ) (other : Item) → end ≤ place → place < at → slice_get items place ≡ Some other → has_rank other.who rank ≡ false)
    → slice_get items at ≡ Some item → has_rank item.who rank ≡ false
    → (place : ℕ) (other : Item) → end ≤ place → place < at + 1 → slice_get items place ≡ Some other → has_rank other.who rank ≡ false
idle_more rank items end at item so_far found none place other reach before here = by (cases_lt place at)
  where
    by : (place < at) ⊎ (at ≤ place) → has_rank other.who rank ≡ false
    by (inl earlier) = so_far place other reach earlier here
    by (inr later) =
        let now : place ≡ at = omega (arith, later, before) in
        let both : Some item ≡ Some other = sym found ∙ ap (slice_get items) (sym now) ∙ here in
        let same : item ≡ other = cc in
        ap (λ (i : Item). has_rank i.who rank) (sym same) ∙ none
