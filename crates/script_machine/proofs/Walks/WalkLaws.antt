-- Laws of a walk: its place and its open repeats tell what is left of the list.
use Rattle.std.proofs.Common.{◌≡◌, ℕ, zero, suc, ◌+◌, ◌-◌, ◌<◌, ◌≤◌, Bool, true, false, cond, List, [], ◌∷◌, ◌++◌, map, length, drop, slice_get, Option, Some, None, refl, sym, ap, subst, ◌∙◌, arith, append_assoc}
use Rattle.std.specs.Option.{option_map}
use Rattle.std.proofs.Math.ListN.{drop_of_length-le}
use Rattle.std.proofs.Math.Seq.{drop-append_seam}
use Rattle.std.proofs.lemmas.List.{at_drop_more, at_drop_all, append-nil, length-map, drop-drop}
use Rattle.std.proofs.lemmas.Option.{slice_get_within, slice_get_past, slice_get-map, get_or_from_slice_get}
use Rattle.scc_base.specs.Setups.{SetupView}
use Rattle.groups.specs.declared.collectives.Coll.{Coll}
use Rattle.groups.specs.declared.collectives.Step.{Step}
use Rattle.groups.specs.Collectives.{steps_of}
use Rattle.script_rules.specs.declared.script.Item.{Item}
use Rattle.script_rules.specs.declared.script.Stmt.{Stmt}
use Rattle.script_rules.specs.declared.script.Stmt.TheVariants as stmt
use Rattle.script_rules.specs.Effects.{effect_of}
use Rattle.script_rules.specs.Script.{Script, has_rank, rules_of}
use Rattle.scc_base.specs.declared.communicators.CommRule.{CommRule}
use Rattle.scc_base.specs.declared.layouts.Layout.TheVariants.{LineFlags}
use Rattle.std.specs.List.{range_with_len}
use Rattle.script_rules.specs.declared.effect.Nesting.{Nesting}
use Rattle.script_rules.specs.declared.effect.Nesting.TheVariants as nesting
use Rattle.script_machine.specs.declared.prims.Operands.{Operands}
use Rattle.script_machine.specs.declared.course.Open.{Open}
use Rattle.script_machine.specs.Program.{Act, Prim, Unrolled, acts_of, begins, call_steps, can_call, copies, in_front, unrolled_marks, marks_by, marks_in, marks_of, nesting_at, part_of, parts_of, prims_of, unrolled_repeat, setup_of}
use Rattle.script_machine.specs.Walk.{AreOpen, AreOpenAt, HasMore, is_closing, is_end, HasMoreMarks, again, closed_by, left_at, left_of, next_pass, repeats_after_begin, repeats_after_marks, passed_to, woven}

-- the k-th of the parts of a collective call
pub part_at : (o : Operands) (steps : List Step) (k : ℕ) (step : Step) → slice_get steps k ≡ Some step → slice_get (parts_of o steps) k ≡ Some (part_of o (begins steps) step)
part_at o steps k step at_k = slice_get-map (part_of o (begins steps)) steps k ∙ ap (option_map (part_of o (begins steps))) at_k

called_by : (o : Operands) (steps : List Step) (k : ℕ) (step : Step) (b : Bool) → k < length (cond b steps []) → slice_get steps k ≡ Some step → slice_get (parts_of o (cond b steps [])) k ≡ Some (part_of o (begins steps) step)
called_by o steps k step true there at_k = part_at o steps k step at_k
called_by o steps k step false there at_k = absurd (omega (arith, there))

-- of a call that the rank may make
pub part_called : (s : SetupView) (rank : ℕ) (c : Coll) (o : Operands) (k : ℕ) (step : Step) → k < length (call_steps s rank c) → slice_get (steps_of s rank c) k ≡ Some step → slice_get (parts_of o (call_steps s rank c)) k ≡ Some (part_of o (begins (steps_of s rank c)) step)
part_called s rank c o k step there at_k = called_by o (steps_of s rank c) k step (can_call s rank c) there at_k

module _ (s : SetupView) (rank : ℕ) where
  -- what items make from a place on, by the item that stands there
  pub marked-at : (items : List Item) (at : ℕ) (item : Item) → slice_get items at ≡ Some item → unrolled_marks s rank (drop at items) ≡ in_front (nesting_at rank item) (marks_of s rank item) (unrolled_marks s rank (drop (at + 1) items))
  unfolding unrolled_marks
  marked-at items at item here =
      at_drop_more (unrolled_marks s rank) items at item (slice_get_within items at item here)
      ∙ ap (λ (x : Item). in_front (nesting_at rank x) (marks_of s rank x) (unrolled_marks s rank (drop (at + 1) items))) (get_or_from_slice_get items at item item here)

  -- past the last item nothing is made
  pub marked-past : (items : List Item) (at : ℕ) → length items ≤ at → unrolled_marks s rank (drop at items) ≡ record { here = []; afterwards = [] }
  unfolding unrolled_marks
  marked-past items at past = at_drop_all (unrolled_marks s rank) items at past

-- what is left goes on behind what comes first
woven-append : (marks here : List (Option Prim)) (afterwards more : List (List (Option Prim))) → woven (marks ++ here) afterwards more ≡ marks ++ woven here afterwards more
woven-append marks here [] more = refl
woven-append marks here (next ∷ afterwards) [] = refl
woven-append marks here (next ∷ afterwards) (passes ∷ more) = append_assoc marks here _

-- a repeat is one pass, and then the further ones
woven-repeated : (times : ℕ) (here : List (Option Prim)) (afterwards more : List (List (Option Prim))) → left_of (unrolled_repeat times here afterwards) more ≡ woven here afterwards (copies (times - 1) here ∷ more)
woven-repeated times here [] more = refl
woven-repeated times here (next ∷ afterwards) more =
    woven-append here (copies (times - 1) here ++ next) afterwards more
    ∙ ap (λ (l : List (Option Prim)). here ++ l) (woven-append (copies (times - 1) here) next afterwards more)

-- past the end of the items nothing is left
left-past : (s : SetupView) (rank : ℕ) (items : List Item) (at : ℕ) (repeats : List Open) → length items ≤ at → left_at s rank items at repeats ≡ []
left-past s rank items at repeats past = ap (λ (u : Unrolled (Option Prim)). left_of u (map (again s rank items) repeats)) (marked-past s rank items at past)

pub open-past : (s : SetupView) (rank : ℕ) (items : List Item) (at : ℕ) (repeats : List Open) → length items ≤ at → AreOpenAt s rank items at repeats
open-past s rank items at repeats past =
    let P : Unrolled (Option Prim) → Type 0 = λ u. AreOpen s rank items u.afterwards repeats in
    subst P (sym (marked-past s rank items at past)) tt

stays_opens : (times : ℕ) → nesting.Stays ≡ nesting.Opens times → ⊥
stays_opens times is = cc

stays_closes : (place : ℕ) → nesting.Stays ≡ nesting.Closes place → ⊥
stays_closes place is = cc

opens_closes : (times place : ℕ) → nesting.Opens times ≡ nesting.Closes place → ⊥
opens_closes times place is = cc

-- the beginning of a repeat is no primitive
no_prim : (s : SetupView) (rank : ℕ) (stmt : Stmt) (times : ℕ) → (effect_of stmt).nesting ≡ nesting.Opens times → length (acts_of s rank stmt) ≡ 0
no_prim s rank (stmt.Repeat most end) times opens = refl
no_prim s rank (stmt.End start) times opens = absurd (opens_closes times start (sym opens))
no_prim s rank _ times opens = absurd (stays_opens times opens)

-- and neither is the end of a pass
pub end_prim : (s : SetupView) (rank : ℕ) (stmt : Stmt) (place : ℕ) → (effect_of stmt).nesting ≡ nesting.Closes place → acts_of s rank stmt ≡ []
end_prim s rank (stmt.End start) place closes = refl
end_prim s rank (stmt.Repeat times end) place closes = absurd (opens_closes times place closes)
end_prim s rank _ place closes = absurd (stays_closes place closes)

-- the end of a pass is a mark
pub closes_by : (s : SetupView) (rank : ℕ) (item : Item) (place : ℕ) → nesting_at rank item ≡ nesting.Closes place → length (marks_of s rank item) ≡ 1
closes_by s rank item place closes = ap (λ (n : Nesting). length (marks_by n (prims_of s rank item))) closes

opens_prims : (s : SetupView) (rank : ℕ) (item : Item) (times : ℕ) (b : Bool) → has_rank item.who rank ≡ b → nesting_at rank item ≡ nesting.Opens times → length (prims_of s rank item) ≡ 0
opens_prims s rank item times true has opens =
    let opening : (effect_of item.stmt).nesting ≡ nesting.Opens times = sym (ap (λ (b : Bool). cond b (effect_of item.stmt).nesting nesting.Stays) has) ∙ opens in
    rw has (length-map (acts_of s rank item.stmt) (λ (act : Act). record { line = item.line; act = act }) ∙ no_prim s rank item.stmt times opening)
opens_prims s rank item times false has opens =
    let staying = sym (ap (λ (b : Bool). cond b (effect_of item.stmt).nesting nesting.Stays) has) ∙ opens in absurd (stays_opens times staying)

opens_by : (s : SetupView) (rank : ℕ) (item : Item) (times : ℕ) → nesting_at rank item ≡ nesting.Opens times → length (marks_of s rank item) ≡ 0
opens_by s rank item times opens =
    ap (λ (n : Nesting). length (marks_by n (prims_of s rank item))) opens
    ∙ length-map (prims_of s rank item) Some ∙ opens_prims s rank item times (has_rank item.who rank) refl opens

empty : (marks : List (Option Prim)) → length marks ≡ 0 → marks ≡ []
empty [] none = refl
empty (x ∷ marks) none = absurd (omega (arith, none))

-- the repeats that stand open in a repeat
entered : (s : SetupView) (rank : ℕ) (items : List Item) (start times : ℕ) (repeats : List Open) (here : List (Option Prim)) (afterwards : List (List (Option Prim))) → unrolled_marks s rank (drop start items) ≡ record { here = here; afterwards = afterwards } → AreOpen s rank items (unrolled_repeat times here afterwards).afterwards repeats → AreOpen s rank items afterwards (record { start = start; left = times - 1 } ∷ repeats)
entered s rank items start times repeats here [] is opens = tt
entered s rank items start times repeats here (next ∷ afterwards) is opens = (ap (λ (u : Unrolled (Option Prim)). u.afterwards) is, opens)

-- over an item that has no primitives
over_by : (s : SetupView) (rank : ℕ) (items : List Item) (at : ℕ) (item : Item) (repeats : List Open) (n : Nesting) → slice_get items at ≡ Some item → nesting_at rank item ≡ n → length (marks_of s rank item) ≡ 0
    → (left_at s rank items (at + 1) (repeats_after_begin n at repeats) ≡ left_at s rank items at repeats) × (AreOpenAt s rank items at repeats → AreOpenAt s rank items (at + 1) (repeats_after_begin n at repeats))
over_by s rank items at item repeats nesting.Stays here is none =
    let u = unrolled_marks s rank (drop (at + 1) items) in
    let now : unrolled_marks s rank (drop at items) ≡ u =
    marked-at s rank items at item here ∙ ap (λ (n : Nesting). in_front n (marks_of s rank item) u) is ∙ ap (λ (l : List (Option Prim)). in_front nesting.Stays l u) (empty (marks_of s rank item) none) in
    let P : Unrolled (Option Prim) → Type 0 = λ v. AreOpen s rank items v.afterwards repeats in
    (ap (λ (v : Unrolled (Option Prim)). left_of v (map (again s rank items) repeats)) (sym now), λ opens. subst P now opens)
over_by s rank items at item repeats (nesting.Opens times) here is none =
    let u = unrolled_marks s rank (drop (at + 1) items) in
    let now : unrolled_marks s rank (drop at items) ≡ unrolled_repeat times u.here u.afterwards =
    marked-at s rank items at item here ∙ ap (λ (n : Nesting). in_front n (marks_of s rank item) u) is in
    let P : Unrolled (Option Prim) → Type 0 = λ v. AreOpen s rank items v.afterwards repeats in (
      sym (ap (λ (v : Unrolled (Option Prim)). left_of v (map (again s rank items) repeats)) now ∙ woven-repeated times u.here u.afterwards (map (again s rank items) repeats)),
      λ opens. entered s rank items (at + 1) times repeats u.here u.afterwards refl (subst P now opens),
    )
over_by s rank items at item repeats (nesting.Closes start) here is none =
    absurd (omega (arith, none, closes_by s rank item start is))

pub over_same : (s : SetupView) (rank : ℕ) (items : List Item) (at : ℕ) (item : Item) (before after : List Open) → slice_get items at ≡ Some item → length (marks_of s rank item) ≡ 0 → after ≡ repeats_after_begin (nesting_at rank item) at before → left_at s rank items (at + 1) after ≡ left_at s rank items at before
over_same s rank items at item before after here none now =
    ap (left_at s rank items (at + 1)) now ∙ (over_by s rank items at item before (nesting_at rank item) here refl none).0

pub over_open : (s : SetupView) (rank : ℕ) (items : List Item) (at : ℕ) (item : Item) (before after : List Open) → slice_get items at ≡ Some item → length (marks_of s rank item) ≡ 0 → after ≡ repeats_after_begin (nesting_at rank item) at before → AreOpenAt s rank items at before → AreOpenAt s rank items (at + 1) after
over_open s rank items at item before after here none now opens =
    let P : List Open → Type 0 = λ r. AreOpenAt s rank items (at + 1) r in
    subst P (sym now) ((over_by s rank items at item before (nesting_at rank item) here refl none).1 opens)

-- what an item makes stands in front of what is left behind it
front_by : (s : SetupView) (rank : ℕ) (items : List Item) (at : ℕ) (item : Item) (repeats : List Open) (n : Nesting) → slice_get items at ≡ Some item → nesting_at rank item ≡ n → 0 < length (marks_of s rank item) → (rest : List (Option Prim)) × (left_at s rank items at repeats ≡ marks_of s rank item ++ rest)
front_by s rank items at item repeats nesting.Stays here is some =
    let u = unrolled_marks s rank (drop (at + 1) items) in
    let now : unrolled_marks s rank (drop at items) ≡ in_front nesting.Stays (marks_of s rank item) u =
    marked-at s rank items at item here ∙ ap (λ (n : Nesting). in_front n (marks_of s rank item) u) is in (
      left_of u (map (again s rank items) repeats),
      ap (λ (v : Unrolled (Option Prim)). left_of v (map (again s rank items) repeats)) now ∙ woven-append (marks_of s rank item) u.here u.afterwards (map (again s rank items) repeats),
    )
front_by s rank items at item repeats (nesting.Opens times) here is some =
    absurd (omega (arith, some, opens_by s rank item times is))
front_by s rank items at item [] (nesting.Closes start) here is some =
    let u = unrolled_marks s rank (drop (at + 1) items) in
    let now : unrolled_marks s rank (drop at items) ≡ in_front (nesting.Closes start) (marks_of s rank item) u =
    marked-at s rank items at item here ∙ ap (λ (n : Nesting). in_front n (marks_of s rank item) u) is in
    ([], ap (λ (v : Unrolled (Option Prim)). left_of v []) now ∙ sym (append-nil (marks_of s rank item)))
front_by s rank items at item (o ∷ repeats) (nesting.Closes start) here is some =
    let u = unrolled_marks s rank (drop (at + 1) items) in
    let now : unrolled_marks s rank (drop at items) ≡ in_front (nesting.Closes start) (marks_of s rank item) u =
    marked-at s rank items at item here ∙ ap (λ (n : Nesting). in_front n (marks_of s rank item) u) is in
    (again s rank items o ++ woven u.here u.afterwards (map (again s rank items) repeats), ap (λ (v : Unrolled (Option Prim)). left_of v (map (again s rank items) (o ∷ repeats))) now)

get_within : (marks rest : List (Option Prim)) (step : ℕ) (mark : Option Prim) → slice_get marks step ≡ Some mark → slice_get (drop step (marks ++ rest)) 0 ≡ Some mark
get_within [] rest step mark here = absurd (cc)
get_within (x ∷ marks) rest zero mark here = here
get_within (x ∷ marks) rest (suc step) mark here = get_within marks rest step mark here

-- what closes a repeat, and what does not
pub closing : (n : Nesting) → is_closing n ≡ true → (place : ℕ) × (n ≡ nesting.Closes place)
closing (nesting.Opens times) is = absurd (cc)
closing (nesting.Closes start) is = (start, refl)
closing nesting.Stays is = absurd (cc)

staying : (n : Nesting) → is_closing n ≡ false → (place : ℕ) → n ≡ nesting.Closes place → ⊥
staying n not place is = let both : is_closing n ≡ true = ap is_closing is in absurd (cc)

-- the mark that comes next
front_mark : (s : SetupView) (rank : ℕ) (items : List Item) (at step : ℕ) (item : Item) (repeats : List Open) (mark : Option Prim) → slice_get items at ≡ Some item → step < length (marks_of s rank item) → slice_get (marks_of s rank item) step ≡ Some mark → slice_get (drop step (left_at s rank items at repeats)) 0 ≡ Some mark
front_mark s rank items at step item repeats mark here there is =
    let front = front_by s rank items at item repeats (nesting_at rank item) here refl (omega (arith, there)) in
    ap (λ (l : List (Option Prim)). slice_get (drop step l) 0) front.1
    ∙ get_within (marks_of s rank item) front.0 step mark is

-- the end of a pass comes next
pub front_end : (s : SetupView) (rank : ℕ) (items : List Item) (at step : ℕ) (item : Item) (repeats : List Open) → slice_get items at ≡ Some item → step < length (marks_of s rank item) → is_closing (nesting_at rank item) ≡ true → slice_get (drop step (left_at s rank items at repeats)) 0 ≡ Some None
front_end s rank items at step item repeats here there ends =
    let closes = closing (nesting_at rank item) ends in
    let one = closes_by s rank item closes.0 closes.1 in
    let first : step ≡ 0 = omega (arith, there, one) in
    front_mark s rank items at step item repeats None here there
    (ap (slice_get (marks_of s rank item)) first ∙ ap (λ (n : Nesting). slice_get (marks_by n (prims_of s rank item)) 0) closes.1)

-- an item that closes no repeat has a mark for each primitive
prims_by : (n : Nesting) (prims : List Prim) → ((place : ℕ) → n ≡ nesting.Closes place → ⊥) → marks_by n prims ≡ map Some prims
prims_by (nesting.Opens times) prims other = refl
prims_by (nesting.Closes start) prims other = absurd (other start refl)
prims_by nesting.Stays prims other = refl

pub as_many_prims : (s : SetupView) (rank : ℕ) (item : Item) → is_closing (nesting_at rank item) ≡ false → length (marks_of s rank item) ≡ length (prims_of s rank item)
as_many_prims s rank item other = ap length (prims_by (nesting_at rank item) (prims_of s rank item) (staying (nesting_at rank item) other)) ∙ length-map (prims_of s rank item) Some

-- each primitive of an item is one of its statement
acts_there : (s : SetupView) (rank : ℕ) (item : Item) (step : ℕ) (b : Bool) → has_rank item.who rank ≡ b → step < length (prims_of s rank item) → step < length (acts_of s rank item.stmt)
acts_there s rank item step true has there =
    let all : length (prims_of s rank item) ≡ length (acts_of s rank item.stmt) = rw has (length-map (acts_of s rank item.stmt) (λ (act : Act). record { line = item.line; act = act })) in
    omega (arith, there, all)
acts_there s rank item step false has there =
    let none : length (prims_of s rank item) ≡ 0 = rw has refl in
    absurd (omega (arith, there, none))

pub act_there : (s : SetupView) (rank : ℕ) (item : Item) (step : ℕ) → is_closing (nesting_at rank item) ≡ false → step < length (marks_of s rank item) → step < length (acts_of s rank item.stmt)
act_there s rank item step other there =
    let all = as_many_prims s rank item other in
    acts_there s rank item step (has_rank item.who rank) refl (omega (arith, there, all))

prim_by : (s : SetupView) (rank : ℕ) (item : Item) (step : ℕ) (act : Act) (b : Bool) → has_rank item.who rank ≡ b → step < length (prims_of s rank item) → slice_get (acts_of s rank item.stmt) step ≡ Some act → slice_get (prims_of s rank item) step ≡ Some (record { line = item.line; act = act })
prim_by s rank item step act true has there here =
    rw has (slice_get-map (λ (act : Act). record { line = item.line; act = act }) (acts_of s rank item.stmt) step ∙ ap (option_map (λ (act : Act). record { line = item.line; act = act })) here)
prim_by s rank item step act false has there here =
    let none : length (prims_of s rank item) ≡ 0 = rw has refl in
    absurd (omega (arith, there, none))

-- the primitive that comes next
pub front_is : (s : SetupView) (rank : ℕ) (items : List Item) (at step : ℕ) (item : Item) (repeats : List Open) (act : Act) → slice_get items at ≡ Some item → step < length (marks_of s rank item) → is_closing (nesting_at rank item) ≡ false → slice_get (acts_of s rank item.stmt) step ≡ Some act → slice_get (drop step (left_at s rank items at repeats)) 0 ≡ Some (Some (record { line = item.line; act = act }))
front_is s rank items at step item repeats act here there other acts =
    let prim : Prim = record { line = item.line; act = act } in
    let prims = prims_of s rank item in
    let all = as_many_prims s rank item other in
    front_mark s rank items at step item repeats (Some prim) here there
    (ap (λ (l : List (Option Prim)). slice_get l step) (prims_by (nesting_at rank item) prims (staying (nesting_at rank item) other))
    ∙ slice_get-map Some prims step
    ∙ ap (option_map Some) (prim_by s rank item step act (has_rank item.who rank) refl (omega (arith, there, all)) acts))

-- within a list there is something
pub some_at : {A : Type 0} (xs : List A) (at : ℕ) → at < length xs → (x : A) × (slice_get xs at ≡ Some x)
some_at [] at within = absurd (omega (arith, within))
some_at (x ∷ xs) zero within = (x, refl)
some_at (x ∷ xs) (suc at) within = some_at xs at (omega (arith, within))

-- whether the end of a pass comes next
pub at_end : (s : SetupView) (rank : ℕ) (items : List Item) (at step : ℕ) (item : Item) (repeats : List Open) → slice_get items at ≡ Some item → step < length (marks_of s rank item) → is_end (slice_get (drop step (left_at s rank items at repeats)) 0) ≡ is_closing (nesting_at rank item)
at_end s rank items at step item repeats here there = by (is_closing (nesting_at rank item)) refl
  where
    prims : List Prim
    prims = prims_of s rank item

    by : (b : Bool) → is_closing (nesting_at rank item) ≡ b → is_end (slice_get (drop step (left_at s rank items at repeats)) 0) ≡ b
    by true ends = ap is_end (front_end s rank items at step item repeats here there ends)
    by false other =
        let all = as_many_prims s rank item other in
        let found = some_at prims step (omega (arith, there, all)) in
        ap is_end (front_mark s rank items at step item repeats (Some found.0) here there
        (ap (λ (l : List (Option Prim)). slice_get l step) (prims_by (nesting_at rank item) prims (staying (nesting_at rank item) other))
        ∙ slice_get-map Some prims step ∙ ap (option_map Some) found.1))

-- more marks than were passed stand at the item
pub stands_there : (s : SetupView) (rank : ℕ) (items : List Item) (at step : ℕ) (item : Item) → slice_get items at ≡ Some item → HasMoreMarks s rank items at step → step < length (marks_of s rank item)
stands_there s rank items at step item here stands = let P : Option Item → Type 0 = λ o. HasMore s rank o step in subst P here stands

pub none_there : (s : SetupView) (rank : ℕ) (items : List Item) (at step : ℕ) → length items ≤ at → HasMoreMarks s rank items at step
none_there s rank items at step past = let P : Option Item → Type 0 = λ o. HasMore s rank o step in subst P (sym (slice_get_past items at past)) tt

pub some_there : (s : SetupView) (rank : ℕ) (items : List Item) (at step : ℕ) (item : Item) → slice_get items at ≡ Some item → step < length (marks_of s rank item) → HasMoreMarks s rank items at step
some_there s rank items at step item here there = let P : Option Item → Type 0 = λ o. HasMore s rank o step in subst P (sym here) there

-- nothing is left past the end, whatever was done there
pub nothing_past : (s : SetupView) (rank : ℕ) (items : List Item) (at step : ℕ) (repeats : List Open) → length items ≤ at → drop step (left_at s rank items at repeats) ≡ []
nothing_past s rank items at step repeats past = ap (drop step) (left-past s rank items at repeats past) ∙ drop_of_length-le [] (omega arith)

-- behind the end of a pass
next_by : (s : SetupView) (rank : ℕ) (items : List Item) (at end start left : ℕ) (repeats : List Open) (u : Unrolled (Option Prim)) → unrolled_marks s rank (drop (at + 1) items) ≡ u
    → ((unrolled_marks s rank (drop start items)).afterwards ≡ u.here ∷ u.afterwards) × AreOpen s rank items u.afterwards repeats
    → (left_at s rank items (next_pass at start left) (closed_by start left repeats) ≡ copies left (unrolled_marks s rank (drop start items)).here ++ left_of u (map (again s rank items) repeats))
    × AreOpenAt s rank items (next_pass at start left) (closed_by start left repeats)
next_by s rank items at end start zero repeats u is opens =
    let P : Unrolled (Option Prim) → Type 0 = λ v. AreOpen s rank items v.afterwards repeats in
    (ap (λ (v : Unrolled (Option Prim)). left_of v (map (again s rank items) repeats)) is, subst P (sym is) opens.1)
next_by s rank items at end start (suc left) repeats u is opens =
    let body = unrolled_marks s rank (drop start items) in
    let more = map (again s rank items) repeats in
    let P : List (List (Option Prim)) → Type 0 = λ b. AreOpen s rank items b (record { start = start; left = left } ∷ repeats) in (
      ap (λ (b : List (List (Option Prim))). woven body.here b (copies left body.here ∷ more)) opens.0 ∙ sym (append_assoc body.here (copies left body.here) (left_of u more)),
      subst P (sym opens.0) opens,
    )

-- the place behind an item that has primitives
after_by : (s : SetupView) (rank : ℕ) (items : List Item) (at end : ℕ) (item : Item) (repeats : List Open) (n : Nesting) → slice_get items at ≡ Some item → nesting_at rank item ≡ n → 0 < length (marks_of s rank item) → length items ≤ end → AreOpenAt s rank items at repeats
    → (left_at s rank items (passed_to n at end repeats) (repeats_after_marks n repeats) ≡ drop (length (marks_of s rank item)) (left_at s rank items at repeats)) × AreOpenAt s rank items (passed_to n at end repeats) (repeats_after_marks n repeats)
after_by s rank items at end item repeats nesting.Stays here is some past opens =
    let u = unrolled_marks s rank (drop (at + 1) items) in
    let marks = marks_of s rank item in
    let now : unrolled_marks s rank (drop at items) ≡ in_front nesting.Stays marks u =
    marked-at s rank items at item here ∙ ap (λ (n : Nesting). in_front n marks u) is in
    let P : Unrolled (Option Prim) → Type 0 = λ v. AreOpen s rank items v.afterwards repeats in (
      sym (ap (λ (v : Unrolled (Option Prim)). drop (length marks) (left_of v (map (again s rank items) repeats))) now
          ∙ ap (drop (length marks)) (woven-append marks u.here u.afterwards (map (again s rank items) repeats))
          ∙ drop-append_seam marks (left_of u (map (again s rank items) repeats))),
      subst P now opens,
    )
after_by s rank items at end item repeats (nesting.Opens times) here is some past opens =
    absurd (omega (arith, some, opens_by s rank item times is))
after_by s rank items at end item [] (nesting.Closes start) here is some past opens =
    let u = unrolled_marks s rank (drop (at + 1) items) in
    let marks = marks_of s rank item in
    let now : unrolled_marks s rank (drop at items) ≡ in_front (nesting.Closes start) marks u =
    marked-at s rank items at item here ∙ ap (λ (n : Nesting). in_front n marks u) is in
    (left-past s rank items end [] past ∙ sym (ap (λ (v : Unrolled (Option Prim)). drop (length marks) (left_of v [])) now ∙ drop_of_length-le marks (omega arith)), open-past s rank items end [] past)
after_by s rank items at end item (o ∷ repeats) (nesting.Closes start) here is some past opens =
    let u = unrolled_marks s rank (drop (at + 1) items) in
    let marks = marks_of s rank item in
    let now : unrolled_marks s rank (drop at items) ≡ in_front (nesting.Closes start) marks u =
    marked-at s rank items at item here ∙ ap (λ (n : Nesting). in_front n marks u) is in
    let P : Unrolled (Option Prim) → Type 0 = λ v. AreOpen s rank items v.afterwards (o ∷ repeats) in
    let was : drop (length marks) (left_at s rank items at (o ∷ repeats)) ≡ again s rank items o ++ left_of u (map (again s rank items) repeats) =
    ap (λ (v : Unrolled (Option Prim)). drop (length marks) (left_of v (map (again s rank items) (o ∷ repeats)))) now ∙ drop-append_seam marks (again s rank items o ++ left_of u (map (again s rank items) repeats)) in
    let next = next_by s rank items at end o.start o.left repeats u refl (subst P now opens) in
    (next.0 ∙ sym was, next.1)

pub after_same : (s : SetupView) (rank : ℕ) (items : List Item) (at end to : ℕ) (item : Item) (before after : List Open) → slice_get items at ≡ Some item → 0 < length (marks_of s rank item) → length items ≤ end → AreOpenAt s rank items at before → to ≡ passed_to (nesting_at rank item) at end before → after ≡ repeats_after_marks (nesting_at rank item) before
    → left_at s rank items to after ≡ drop (length (marks_of s rank item)) (left_at s rank items at before)
after_same s rank items at end to item before after here some past opens goes now =
    ap (λ (n : ℕ). left_at s rank items n after) goes ∙ ap (left_at s rank items (passed_to (nesting_at rank item) at end before)) now
    ∙ (after_by s rank items at end item before (nesting_at rank item) here refl some past opens).0

pub after_open : (s : SetupView) (rank : ℕ) (items : List Item) (at end to : ℕ) (item : Item) (before after : List Open) → slice_get items at ≡ Some item → 0 < length (marks_of s rank item) → length items ≤ end → AreOpenAt s rank items at before → to ≡ passed_to (nesting_at rank item) at end before → after ≡ repeats_after_marks (nesting_at rank item) before
    → AreOpenAt s rank items to after
after_open s rank items at end to item before after here some past opens goes now =
    let P : ℕ → Type 0 = λ n. AreOpenAt s rank items n after in
    let Q : List Open → Type 0 = λ r. AreOpenAt s rank items (passed_to (nesting_at rank item) at end before) r in
    subst P (sym goes) (subst Q (sym now) (after_by s rank items at end item before (nesting_at rank item) here refl some past opens).1)

-- past the end all places are one
pub past_same : (s : SetupView) (rank : ℕ) (items : List Item) (at to : ℕ) (repeats : List Open) → length items ≤ at → length items ≤ to → left_at s rank items to repeats ≡ left_at s rank items at repeats
past_same s rank items at to repeats here there = left-past s rank items to repeats there ∙ sym (left-past s rank items at repeats here)

-- before the first item everything is left
pub all_left : (s : SetupView) (rank : ℕ) (items : List Item) → left_at s rank items 0 [] ≡ (unrolled_marks s rank items).here
all_left s rank items = no_more (unrolled_marks s rank items)
  where
    no_more : (u : Unrolled (Option Prim)) → left_of u [] ≡ u.here
    no_more u = none u.here u.afterwards
      where
        none : (here : List (Option Prim)) (afterwards : List (List (Option Prim))) → woven here afterwards [] ≡ here
        none here [] = refl
        none here (next ∷ afterwards) = refl

pub none_open : (s : SetupView) (rank : ℕ) (items : List Item) (at : ℕ) → AreOpenAt s rank items at []
none_open s rank items at = none (unrolled_marks s rank (drop at items)).afterwards
  where
    none : (afterwards : List (List (Option Prim))) → AreOpen s rank items afterwards []
    none [] = tt
    none (next ∷ afterwards) = tt

-- past the last primitive of an item
pub last_done : (l : List (Option Prim)) (step count : ℕ) → step < count → count ≤ step + 1 → drop count l ≡ drop 1 (drop step l)
last_done l step count there done = ap (λ (n : ℕ). drop n l) (omega (arith, there, done)) ∙ sym (drop-drop 1 step l)

-- neither the layout nor the hosts matter
made_by : (s : SetupView) → SetupView
made_by s = record { nue = s.nue; layout = LineFlags; hosts = range_with_len 0 48; comms = s.comms }

marked-made_by : (s : SetupView) (rank : ℕ) (items : List Item) → unrolled_marks s rank items ≡ unrolled_marks (made_by s) rank items
unfolding unrolled_marks made_by
marked-made_by s rank [] = refl
marked-made_by s rank (item ∷ items) = ap (in_front (nesting_at rank item) (marks_of s rank item)) (marked-made_by s rank items)

pub marked_by_script : (s : SetupView) (rank : ℕ) (script : Script) → s.nue ≡ script.nue → s.comms ≡ rules_of script.items → (unrolled_marks s rank script.items).here ≡ marks_in script rank
unfolding made_by
marked_by_script s rank script ranks communicators =
    let made : made_by s ≡ setup_of script =
    ap (λ (n : ℕ). record { nue = n; layout = LineFlags; hosts = range_with_len 0 48; comms = s.comms }) ranks
    ∙ ap (λ (comms : List CommRule). record { nue = script.nue; layout = LineFlags; hosts = range_with_len 0 48; comms = comms }) communicators in
    ap (λ (u : Unrolled (Option Prim)). u.here) (marked-made_by s rank script.items ∙ ap (λ (t : SetupView). unrolled_marks t rank script.items) made)

-- an item that ends a pass is one mark
pub one_mark : (s : SetupView) (rank : ℕ) (item : Item) → is_closing (nesting_at rank item) ≡ true → length (marks_of s rank item) ≡ 1
one_mark s rank item ends = let closes = closing (nesting_at rank item) ends in closes_by s rank item closes.0 closes.1
