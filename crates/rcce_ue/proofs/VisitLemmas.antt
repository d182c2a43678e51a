-- The program of a rank has no more primitives than its items and the steps of its collective calls are counted.
use Rattle.std.proofs.Common.{◌≡◌, ℕ, zero, suc, ◌+◌, ◌-◌, ◌*◌, ◌≤◌, Bool, true, false, cond, List, [], ◌∷◌, ◌++◌, length, map, Option, Some, None, arith, length-append}
use Rattle.std.proofs.lemmas.List.{length-map}
use Rattle.scc_base.specs.Setups.{SetupView}
use Rattle.script_rules.specs.Script.{Script, has_rank}
use Rattle.script_rules.specs.declared.script.Item.{Item}
use Rattle.script_rules.specs.declared.script.Stmt.{Stmt}
use Rattle.script_machine.specs.Program.{Act, Prim, Unrolled, acts_by, acts_of, begins, call_steps, collective_of, copies, in_front, nesting_at, part_of, prims_of, program_of, unrolled_repeat, setup_of, single_of, unrolled_items}
use Rattle.script_machine.specs.declared.prims.Collective.{Collective}
use Rattle.script_rules.specs.declared.effect.Nesting.{Nesting}
use Rattle.script_rules.specs.declared.effect.Nesting.TheVariants as nesting
use Rattle.std.specs.Option.{option_to_list}
use Rattle.rcce_ue.specs.Bounds.{Visits, item_visits, steps_by, visits, visits_in_front, visits_of, visits_repeated}

-- lists of primitives are no longer than these numbers, one by one
abbrev AreWithin : List (List Prim) → List ℕ → Type 0
AreWithin [] [] = Unit {0}
AreWithin [] (n ∷ ns) = ⊥
AreWithin (prims ∷ more) [] = ⊥
AreWithin (prims ∷ more) (n ∷ ns) = (length prims ≤ n) × AreWithin more ns

record IsWithin (u : Unrolled Prim) (v : Visits) : Type 0 where
  here : length u.here ≤ v.here
  afterwards : AreWithin u.afterwards v.afterwards

length_copies : (n : ℕ) (prims : List Prim) → length (copies n prims) ≡ n * length prims
length_copies zero prims = omega arith
length_copies (suc n) prims =
    let rest = length_copies n prims in
    let both = length-append prims (copies n prims) in
    omega (arith, rest, both)

scaled : (n a b : ℕ) → a ≤ b → n * a ≤ n * b
scaled zero a b le = omega arith
scaled (suc n) a b le = let rest = scaled n a b le in omega (arith, rest, le)

within_repeated : (own times : ℕ) (body : List Prim) (afterwards : List (List Prim)) (n : ℕ) (ns : List ℕ) → length body ≤ n → AreWithin afterwards ns → IsWithin (unrolled_repeat times body afterwards) (visits_repeated own times n ns)
within_repeated own times body [] n [] here rest = record { here = omega (arith, here); afterwards = tt }
within_repeated own times body [] n (m ∷ ns) here rest = absurd rest
within_repeated own times body (next ∷ afterwards) n [] here rest = absurd rest
within_repeated own times body (next ∷ afterwards) n (m ∷ ns) here rest =
    let all = length-append body (copies (times - 1) body ++ next) in
    let end = length-append (copies (times - 1) body) next in
    let many = length_copies (times - 1) body in
    let more = scaled (times - 1) (length body) n here in
    record { here = omega (arith, all, end, many, more, here, rest.0); afterwards = rest.1 }

within_front : (n : Nesting) (prims : List Prim) (own : ℕ) (u : Unrolled Prim) (v : Visits) → length prims ≤ own → IsWithin u v → IsWithin (in_front n prims u) (visits_in_front n own v)
within_front (nesting.Opens times) prims own u v each all = within_repeated own times u.here u.afterwards v.here v.afterwards all.here all.afterwards
within_front (nesting.Closes start) prims own u v each all = record { here = each; afterwards = (all.here, all.afterwards) }
within_front nesting.Stays prims own u v each all =
    let both = length-append prims u.here in
    let here = all.here in
    record { here = omega (arith, both, each, here); afterwards = all.afterwards }

single_short : (o : Option Act) → length (option_to_list o) ≤ 1
single_short None = omega arith
single_short (Some act) = omega arith

acts_short : (s : SetupView) (rank : ℕ) (statement : Stmt) (o : Option Collective) → length (acts_by s rank statement o) ≤ 1 + steps_by s rank o
acts_short s rank statement None = let short = single_short (single_of s.nue rank statement) in omega (arith, short)
acts_short s rank statement (Some call) =
    let same = length-map (call_steps s rank call.coll) (part_of call.operands (begins (call_steps s rank call.coll))) in omega (arith, same)

-- an act of a line
abbrev in_line : ℕ → Act → Prim
in_line line act = record { line = line; act = act }

item_short : (s : SetupView) (rank : ℕ) (item : Item) → length (prims_of s rank item) ≤ item_visits s rank item
item_short s rank item = by (has_rank item.who rank)
  where
    by : (b : Bool) → length (cond b (map (in_line item.line) (acts_of s rank item.stmt)) []) ≤ cond b (1 + steps_by s rank (collective_of item.stmt)) 0
    by true =
        let same = length-map (acts_of s rank item.stmt) (in_line item.line) in
        let short = acts_short s rank item.stmt (collective_of item.stmt) in
        omega (arith, same, short)
    by false = omega arith

within_items : (s : SetupView) (rank : ℕ) (items : List Item) → IsWithin (unrolled_items s rank items) (visits_of s rank items)
unfolding unrolled_items visits_of
within_items s rank [] = record { here = omega arith; afterwards = tt }
within_items s rank (item ∷ items) =
    within_front (nesting_at rank item) (prims_of s rank item) (item_visits s rank item) (unrolled_items s rank items) (visits_of s rank items) (item_short s rank item) (within_items s rank items)

pub program_within : (script : Script) (rank : ℕ) → length (program_of script rank) ≤ visits script rank
program_within script rank = (within_items (setup_of script) rank script.items).here
