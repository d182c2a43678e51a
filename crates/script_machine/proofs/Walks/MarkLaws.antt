-- The primitives among the marks of a rank are its program: an end of a pass is none of them.
use Rattle.std.proofs.Common.{◌≡◌, ℕ, zero, suc, ◌-◌, ◌<◌, ◌≤◌, Bool, true, false, cond, List, [], ◌∷◌, ◌++◌, map, length, drop, slice_get, Option, Some, None, refl, sym, ap, ◌∙◌, arith}
use Rattle.std.proofs.lemmas.List.Elements.{filter_map-append}
use Rattle.scc_base.specs.Setups.{SetupView}
use Rattle.script_rules.specs.declared.script.Item.{Item}
use Rattle.script_rules.specs.Effects.{effect_of}
use Rattle.script_rules.specs.Script.{Script, has_rank}
use Rattle.script_rules.specs.declared.effect.Nesting.{Nesting}
use Rattle.script_rules.specs.declared.effect.Nesting.TheVariants as nesting
use Rattle.script_machine.specs.Program.{Act, Prim, Unrolled, acts_of, copies, in_front, unrolled_marks, marks_by, marks_in, marks_of, nesting_at, prims_in, prims_of, program_of, unrolled_repeat, setup_of, unrolled_items}
use Rattle.script_machine.specs.Walk.{is_end, prim_of}
use Rattle.script_machine.proofs.Walks.WalkLaws.{end_prim}

pub some_prims : (prims : List Prim) → prims_in (map Some prims) ≡ prims
some_prims [] = refl
some_prims (prim ∷ prims) = ap (λ (l : List Prim). prim ∷ l) (some_prims prims)

pub both_prims : (one more : List (Option Prim)) → prims_in (one ++ more) ≡ prims_in one ++ prims_in more
both_prims one more = filter_map-append (λ (mark : Option Prim). mark) one more

pub copied_prims : (n : ℕ) (marks : List (Option Prim)) → prims_in (copies n marks) ≡ copies n (prims_in marks)
copied_prims zero marks = refl
copied_prims (suc n) marks = both_prims marks (copies n marks) ∙ ap (λ (l : List Prim). prims_in marks ++ l) (copied_prims n marks)

closes_none : (s : SetupView) (rank : ℕ) (item : Item) (place : ℕ) (b : Bool) → has_rank item.who rank ≡ b → nesting_at rank item ≡ nesting.Closes place → prims_of s rank item ≡ []
closes_none s rank item place true has closes =
    let closing : (effect_of item.stmt).nesting ≡ nesting.Closes place = sym (ap (λ (b : Bool). cond b (effect_of item.stmt).nesting nesting.Stays) has) ∙ closes in
    ap (λ (b : Bool). cond b (map (λ (act : Act). record { line = item.line; act = act }) (acts_of s rank item.stmt)) []) has
    ∙ ap (λ (acts : List Act). map (λ (act : Act). record { line = item.line; act = act }) acts) (end_prim s rank item.stmt place closing)
closes_none s rank item place false has closes =
    ap (λ (b : Bool). cond b (map (λ (act : Act). record { line = item.line; act = act }) (acts_of s rank item.stmt)) []) has

item_prims : (s : SetupView) (rank : ℕ) (item : Item) (n : Nesting) → nesting_at rank item ≡ n → prims_in (marks_by n (prims_of s rank item)) ≡ prims_of s rank item
item_prims s rank item (nesting.Opens times) is = some_prims (prims_of s rank item)
item_prims s rank item (nesting.Closes start) is = sym (closes_none s rank item start (has_rank item.who rank) refl is)
item_prims s rank item nesting.Stays is = some_prims (prims_of s rank item)

-- what is made without the marks
abbrev without : Unrolled (Option Prim) → Unrolled Prim
without u = record { here = prims_in u.here; afterwards = map prims_in u.afterwards }

without_repeated : (times : ℕ) (here : List (Option Prim)) (afterwards : List (List (Option Prim))) → without (unrolled_repeat times here afterwards) ≡ unrolled_repeat times (prims_in here) (map prims_in afterwards)
without_repeated times here [] = refl
without_repeated times here (next ∷ afterwards) =
    let all = both_prims here (copies (times - 1) here ++ next) ∙ ap (λ (l : List Prim). prims_in here ++ l)
    (both_prims (copies (times - 1) here) next ∙ ap (λ (l : List Prim). l ++ prims_in next) (copied_prims (times - 1) here)) in
    ap (λ (l : List Prim). record { here = l; afterwards = map prims_in afterwards }) all

without_front : (n : Nesting) (marks : List (Option Prim)) (u : Unrolled (Option Prim)) → without (in_front n marks u) ≡ in_front n (prims_in marks) (without u)
without_front (nesting.Opens times) marks u = without_repeated times u.here u.afterwards
without_front (nesting.Closes start) marks u = refl
without_front nesting.Stays marks u = ap (λ (l : List Prim). record { here = l; afterwards = map prims_in u.afterwards }) (both_prims marks u.here)

without_marks : (s : SetupView) (rank : ℕ) (items : List Item) → without (unrolled_marks s rank items) ≡ unrolled_items s rank items
unfolding unrolled_marks unrolled_items
without_marks s rank [] = refl
without_marks s rank (item ∷ items) =
    without_front (nesting_at rank item) (marks_of s rank item) (unrolled_marks s rank items)
    ∙ ap (λ (l : List Prim). in_front (nesting_at rank item) l (without (unrolled_marks s rank items))) (item_prims s rank item (nesting_at rank item) refl)
    ∙ ap (in_front (nesting_at rank item) (prims_of s rank item)) (without_marks s rank items)

pub program_is : (script : Script) (rank : ℕ) → prims_in (marks_in script rank) ≡ program_of script rank
program_is script rank = ap (λ (u : Unrolled Prim). u.here) (without_marks (setup_of script) rank script.items)

pub fewer_prims : (marks : List (Option Prim)) → length (prims_in marks) ≤ length marks
fewer_prims [] = omega arith
fewer_prims (None ∷ marks) = omega (arith, fewer_prims marks)
fewer_prims (Some prim ∷ marks) = omega (arith, fewer_prims marks)

-- where no end of a pass comes next
pub first_prim : (marks : List (Option Prim)) → is_end (slice_get marks 0) ≡ false → prim_of (slice_get marks 0) ≡ slice_get (prims_in marks) 0
first_prim [] is = refl
first_prim (None ∷ marks) is = absurd (cc)
first_prim (Some prim ∷ marks) is = refl

pub more_prims : (marks : List (Option Prim)) → is_end (slice_get marks 0) ≡ false → prims_in (drop 1 marks) ≡ drop 1 (prims_in marks)
more_prims [] is = refl
more_prims (None ∷ marks) is = absurd (cc)
more_prims (Some prim ∷ marks) is = refl

-- and where one does
pub same_prims : (marks : List (Option Prim)) → is_end (slice_get marks 0) ≡ true → prims_in (drop 1 marks) ≡ prims_in marks
same_prims [] is = absurd (cc)
same_prims (None ∷ marks) is = refl
same_prims (Some prim ∷ marks) is = absurd (cc)

pub less_marks : (marks : List (Option Prim)) → is_end (slice_get marks 0) ≡ true → length (drop 1 marks) < length marks
less_marks [] is = absurd (cc)
less_marks (mark ∷ marks) is = omega arith
