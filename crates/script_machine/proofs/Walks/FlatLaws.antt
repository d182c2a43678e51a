-- Laws of the passes of a repeat in which no other repeat stands.
use Rattle.std.proofs.Common.{◌≡◌, ℕ, zero, suc, ◌+◌, ◌<◌, ◌≤◌, ◌⊎◌, inl, inr, true, false, List, [], ◌∷◌, ◌++◌, map, length, drop, get_or, slice_get, Option, Some, None, refl, sym, ap, subst, ◌∙◌, arith, append_assoc}
use Rattle.std.proofs.lemmas.List.{length-append, map-append}
use Rattle.std.proofs.lemmas.Option.{slice_get_cases, slice_get_within}
use Rattle.scc_base.specs.Setups.{SetupView}
use Rattle.script_rules.specs.declared.script.Item.{Item}
use Rattle.script_rules.specs.declared.effect.Nesting.{Nesting}
use Rattle.script_rules.specs.declared.effect.Nesting.TheVariants as nesting
use Rattle.script_machine.specs.declared.course.Open.{Open}
use Rattle.script_machine.specs.Depths.{IsDeep}
use Rattle.script_machine.specs.Passes.{HasPasses, IsFlat, IsFlatFront, LeavesOut, flat_pass, last_pass}
use Rattle.script_machine.specs.Program.{Prim, Unrolled, copies, in_front, unrolled_marks, marks_by, nesting_at, prims_of}
use Rattle.script_machine.specs.Walk.{AreOpen, AreOpenAt, HasMoreMarks, again, is_end, left_at, left_of, prim_of}
use Rattle.script_machine.proofs.Walks.WalkLaws.{at_end, closes_by, closing, marked-at, nothing_past, stands_there}

-- the item at a place ends a pass, and no mark of it was passed
pub record EndsAt (rank : ℕ) (items : List Item) (at step : ℕ) : Type 0 where
  pub item : Item
  pub place : ℕ
  pub here : slice_get items at ≡ Some item
  pub closes : nesting_at rank item ≡ nesting.Closes place
  pub first : step ≡ 0

-- what is left behind the end of a pass
abbrev pub after_end : SetupView → ℕ → List Item → ℕ → List Open → List (Option Prim)
after_end s rank items at [] = []
after_end s rank items at (o ∷ repeats) = again s rank items o ++ left_of (unrolled_marks s rank (drop (at + 1) items)) (map (again s rank items) repeats)

-- that is so where the end of a pass comes next
pub ends_at : (s : SetupView) (rank : ℕ) (items : List Item) (at step : ℕ) (repeats : List Open) → HasMoreMarks s rank items at step
    → is_end (slice_get (drop step (left_at s rank items at repeats)) 0) ≡ true → EndsAt rank items at step
ends_at s rank items at step repeats stands ends = by (slice_get_cases items at).1
  where
    by : ((item : Item) × (at < length items) × (slice_get items at ≡ Some item) × (get_or items at item ≡ item)) ⊎ ((length items ≤ at) × (slice_get items at ≡ None)) → EndsAt rank items at step
    by (inr none) =
        let nothing : is_end (slice_get (drop step (left_at s rank items at repeats)) 0) ≡ false =
        ap (λ (l : List (Option Prim)). is_end (slice_get l 0)) (nothing_past s rank items at step repeats none.0) in
        let both : true ≡ false = sym ends ∙ nothing in
        absurd (cc)
    by (inl found) =
        let item = found.0 in
        let there = stands_there s rank items at step item found.2 stands in
        let closes = closing (nesting_at rank item) (sym (at_end s rank items at step item repeats found.2 there) ∙ ends) in
        let one = closes_by s rank item closes.0 closes.1 in
        record { item = item; place = closes.0; here = found.2; closes = closes.1; first = omega (arith, there, one) }

pub ends_within : (rank : ℕ) (items : List Item) (at step : ℕ) → EndsAt rank items at step → at ≤ length items
ends_within rank items at step ends = let inside = slice_get_within items at ends.item ends.here in omega (arith, inside)

-- what items make from the end of a pass on
one_end : (s : SetupView) (rank : ℕ) (items : List Item) (at step : ℕ) → EndsAt rank items at step
    → unrolled_marks s rank (drop at items) ≡ record { here = None ∷ []; afterwards = (unrolled_marks s rank (drop (at + 1) items)).here ∷ (unrolled_marks s rank (drop (at + 1) items)).afterwards }
one_end s rank items at step ends =
    let u = unrolled_marks s rank (drop (at + 1) items) in
    let prims = prims_of s rank ends.item in
    marked-at s rank items at ends.item ends.here ∙ ap (λ (n : Nesting). in_front n (marks_by n prims) u) ends.closes

-- the end comes first, and then what is left behind it
end_here : (s : SetupView) (rank : ℕ) (items : List Item) (at step : ℕ) (repeats : List Open) → EndsAt rank items at step → left_at s rank items at repeats ≡ None ∷ after_end s rank items at repeats
end_here s rank items at step [] ends = ap (λ (u : Unrolled (Option Prim)). left_of u []) (one_end s rank items at step ends)
end_here s rank items at step (o ∷ repeats) ends =
    ap (λ (u : Unrolled (Option Prim)). left_of u (map (again s rank items) (o ∷ repeats))) (one_end s rank items at step ends)

pub end_left : (s : SetupView) (rank : ℕ) (items : List Item) (at step : ℕ) (repeats : List Open) → EndsAt rank items at step
    → drop step (left_at s rank items at repeats) ≡ None ∷ after_end s rank items at repeats
end_left s rank items at step repeats ends =
    ap (λ (n : ℕ). drop n (left_at s rank items at repeats)) ends.first ∙ end_here s rank items at step repeats ends

-- from a place to itself nothing is made, and one more item that does nothing to the repeats makes primitives
pub flat_start : (s : SetupView) (rank : ℕ) (items : List Item) (at : ℕ) → IsFlat s rank items at at
flat_start s rank items at = record { prims = []; same = refl }

pub flat_more : (s : SetupView) (rank : ℕ) (items : List Item) (start at : ℕ) (item : Item) → slice_get items at ≡ Some item → nesting_at rank item ≡ nesting.Stays
    → IsFlat s rank items start at → IsFlat s rank items start (at + 1)
flat_more s rank items start at item here stays so_far =
    let u = unrolled_marks s rank (drop (at + 1) items) in
    let own = prims_of s rank item in
    let next : (unrolled_marks s rank (drop at items)).here ≡ map Some own ++ u.here =
    ap (λ (v : Unrolled (Option Prim)). v.here) (marked-at s rank items at item here ∙ ap (λ (n : Nesting). in_front n (marks_by n own) u) stays) in
    record {
      prims = so_far.prims ++ own;
      same = so_far.same ∙ ap (λ (l : List (Option Prim)). map Some so_far.prims ++ l) next
          ∙ sym (append_assoc (map Some so_far.prims) (map Some own) u.here)
          ∙ ap (λ (l : List (Option Prim)). l ++ u.here) (sym (map-append Some so_far.prims own));
    }

-- a pass of primitives alone
flat_body : (s : SetupView) (rank : ℕ) (items : List Item) (start at step : ℕ) (flat : IsFlat s rank items start at) → EndsAt rank items at step
    → (unrolled_marks s rank (drop start items)).here ≡ flat_pass flat.prims
flat_body s rank items start at step flat ends =
    flat.same ∙ ap (λ (u : Unrolled (Option Prim)). map Some flat.prims ++ u.here) (one_end s rank items at step ends)

-- what is left behind the passes of the innermost open repeat
abbrev pub after_passes : SetupView → ℕ → List Item → ℕ → List Open → List (Option Prim)
after_passes s rank items at around = left_of (unrolled_marks s rank (drop (at + 1) items)) (map (again s rank items) around)

flat_left : (s : SetupView) (rank : ℕ) (items : List Item) (at step : ℕ) (repeats : List Open) (passes : ℕ) → EndsAt rank items at step → (front : IsFlatFront rank items at repeats passes)
    → drop step (left_at s rank items at repeats) ≡ None ∷ (copies passes (flat_pass (front.flat s).prims) ++ after_passes s rank items at front.around)
flat_left s rank items at step repeats passes ends front =
    end_left s rank items at step repeats ends
    ∙ ap (λ (r : List Open). None ∷ after_end s rank items at r) front.front
    ∙ ap (λ (body : List (Option Prim)). None ∷ (copies passes body ++ after_passes s rank items at front.around)) (flat_body s rank items front.start at step (front.flat s) ends)

-- how many such passes come next
pub no_passes : (left rest : List (Option Prim)) → left ≡ None ∷ rest → HasPasses left 0
no_passes left rest is = record { prims = []; rest = rest; same = is }

pub passes_left : (s : SetupView) (rank : ℕ) (items : List Item) (at step : ℕ) (repeats : List Open) (left : List (Option Prim)) (passes : ℕ) → left ≡ drop step (left_at s rank items at repeats)
    → EndsAt rank items at step → (0 < passes → IsFlatFront rank items at repeats passes) → HasPasses left passes
passes_left s rank items at step repeats left zero is ends front =
    no_passes left (after_end s rank items at repeats) (is ∙ end_left s rank items at step repeats ends)
passes_left s rank items at step repeats left (suc passes) is ends front =
    let one = front (omega arith) in
    record { prims = (one.flat s).prims; rest = after_passes s rank items at one.around; same = is ∙ flat_left s rank items at step repeats (suc passes) ends one }

-- they are left out, or there are none
pub none_left_out : (left rest : List (Option Prim)) → left ≡ None ∷ rest → LeavesOut left left
none_left_out left rest is = record { passes = 0; prims = []; rest = rest; was = is; now = is }

pub left_out : (s : SetupView) (rank : ℕ) (items : List Item) (at step : ℕ) (before after : List Open) (old new : List (Option Prim)) (passes : ℕ) → EndsAt rank items at step
    → IsFlatFront rank items at before passes → after ≡ last_pass before → old ≡ drop step (left_at s rank items at before) → new ≡ drop step (left_at s rank items at after) → LeavesOut old new
left_out s rank items at step before after old new passes ends front is was now =
    record {
      passes = passes;
      prims = (front.flat s).prims;
      rest = after_passes s rank items at front.around;
      was = was ∙ flat_left s rank items at step before passes ends front;
      now = now ∙ end_left s rank items at step after ends ∙ ap (λ (r : List Open). None ∷ after_end s rank items at r) (is ∙ ap last_pass front.front);
    }

-- the open repeats are those that were open
open_last_by : (s : SetupView) (rank : ℕ) (items : List Item) (afterwards : List (List (Option Prim))) (start passes : ℕ) (around : List Open)
    → AreOpen s rank items afterwards (record { start = start; left = passes } ∷ around) → AreOpen s rank items afterwards (record { start = start; left = 0 } ∷ around)
open_last_by s rank items [] start passes around opens = tt
open_last_by s rank items (next ∷ afterwards) start passes around opens = opens

pub open_last : (s : SetupView) (rank : ℕ) (items : List Item) (at : ℕ) (before after : List Open) (passes : ℕ) → IsFlatFront rank items at before passes → after ≡ last_pass before
    → AreOpenAt s rank items at before → AreOpenAt s rank items at after
open_last s rank items at before after passes front is opens =
    let P : List Open → Type 0 = λ r. AreOpenAt s rank items at r in
    subst P (sym (is ∙ ap last_pass front.front)) (open_last_by s rank items (unrolled_marks s rank (drop at items)).afterwards front.start passes front.around (subst P front.front opens))

deep_last_by : (rank : ℕ) (items : List Item) (at start passes : ℕ) (around : List Open)
    → IsDeep rank items at (record { start = start; left = passes } ∷ around) → IsDeep rank items at (record { start = start; left = 0 } ∷ around)
deep_last_by rank items at start passes around deep = record { here = deep.here; held = deep.held }

pub deep_last : (rank : ℕ) (items : List Item) (at : ℕ) (before after : List Open) (passes : ℕ) → IsFlatFront rank items at before passes → after ≡ last_pass before
    → IsDeep rank items at before → IsDeep rank items at after
deep_last rank items at before after passes front is deep =
    let P : List Open → Type 0 = λ r. IsDeep rank items at r in
    subst P (sym (is ∙ ap last_pass front.front)) (deep_last_by rank items at front.start passes front.around (subst P front.front deep))

-- the primitives that were passed up to an end of a pass are those that stand before it
pub pass_walked : (prims walked : List Prim) (rest after : List (Option Prim)) → map Some prims ++ None ∷ rest ≡ map Some walked ++ after → prim_of (slice_get after 0) ≡ None
    → (prims ≡ walked) × (None ∷ rest ≡ after)
pass_walked [] [] rest after is none = (refl, is)
pass_walked [] (q ∷ walked) rest after is none = absurd (cc)
pass_walked (p ∷ prims) [] rest after is none =
    let first : Some p ≡ prim_of (slice_get after 0) = ap (λ (l : List (Option Prim)). prim_of (slice_get l 0)) is in
    let both : Some p ≡ None = first ∙ none in
    absurd (cc)
pass_walked (p ∷ prims) (q ∷ walked) rest after is none =
    let parts : Some p ∷ (map Some prims ++ None ∷ rest) ≡ Some q ∷ (map Some walked ++ after) = is in
    let first : p ≡ q = cc in
    let afterwards : map Some prims ++ None ∷ rest ≡ map Some walked ++ after = cc in
    let more = pass_walked prims walked rest after afterwards none in
    ((λ i. first i ∷ more.0 i), more.1)

-- the first one of some passes
pub flat_first : (prims : List Prim) (passes : ℕ) (rest : List (Option Prim)) → copies (suc passes) (flat_pass prims) ++ rest ≡ map Some prims ++ None ∷ (copies passes (flat_pass prims) ++ rest)
flat_first prims passes rest =
    append_assoc (flat_pass prims) (copies passes (flat_pass prims)) rest ∙ append_assoc (map Some prims) (None ∷ []) (copies passes (flat_pass prims) ++ rest)

-- where passes are left out, no more is left
pub out_shorter : (old new : List (Option Prim)) → LeavesOut old new → length new ≤ length old
out_shorter old new out =
    let before = ap length out.was in
    let after = ap length out.now in
    let all = length-append (copies out.passes (flat_pass out.prims)) out.rest in
    omega (arith, before, after, all)

pub out_stands : (old new : List (Option Prim)) → LeavesOut old new → prim_of (slice_get new 0) ≡ None
out_stands old new out = ap (λ (l : List (Option Prim)). prim_of (slice_get l 0)) out.now
