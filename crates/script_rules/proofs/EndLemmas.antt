-- What does not change when repeats get the places of their ends.
use Rattle.std.proofs.Common.{◌≡◌, ℕ, zero, suc, List, [], ◌∷◌, All, map, Option, Some, None, length, slice_get, slice_set, refl, sym, ap, ◌∙◌, ◌≤◌, arith}
use Rattle.std.proofs.Math.Path.{fun_ext}
use Rattle.std.proofs.lemmas.List.{length-set}
use Rattle.std.proofs.lemmas.List.Elements.{All-set}
use Rattle.std.specs.List.{range_with_len}
use Rattle.std.specs.Option.{option_map_or}
use Rattle.scc_base.specs.declared.communicators.CommRule.{CommRule}
use Rattle.scc_base.specs.declared.communicators.CommRule.TheVariants as rule
use Rattle.script_rules.specs.declared.effect.Nesting.{Nesting}
use Rattle.script_rules.specs.declared.effect.Nesting.TheVariants as nesting
use Rattle.script_rules.specs.declared.script.Item.{Item}
use Rattle.script_rules.specs.declared.script.Stmt.{Stmt}
use Rattle.script_rules.specs.declared.script.Stmt.TheVariants as stmt
use Rattle.script_rules.specs.Ends.{with_end_told, with_end, with_ends}
use Rattle.script_rules.specs.Effects.{comm_named, effect_of, split_rule}
use Rattle.script_rules.specs.Script.{IsSized, first_split, or_rule, rules_of}
use Rattle.script_rules.specs.Settled.{IsNamed}

-- what a list has, whatever places its repeats have for their ends
pub record IsKeptBy (P : List Item → Type 0) : Type 0 where
  pub keeps : (items : List Item) (start place : ℕ) (item : Item) (times end : ℕ) → slice_get items start ≡ Some item → item.stmt ≡ stmt.Repeat times end → P items → P (slice_set items start (record item { stmt = stmt.Repeat times place }))

opens_same : (a b : ℕ) → nesting.Opens a ≡ nesting.Opens b → a ≡ b
opens_same a b is = cc

closes_opens : (start times : ℕ) → nesting.Closes start ≡ nesting.Opens times → ⊥
closes_opens start times is = cc

stays_opens : (times : ℕ) → nesting.Stays ≡ nesting.Opens times → ⊥
stays_opens times is = cc

-- what opens a repeat is one
repeat-of : (s : Stmt) (times : ℕ) → (effect_of s).nesting ≡ nesting.Opens times → (end : ℕ) × (s ≡ stmt.Repeat times end)
repeat-of (stmt.Repeat turns end) times is = (end, ap (λ (n : ℕ). stmt.Repeat n end) (opens_same turns times is))
repeat-of (stmt.End start) times is = absurd (closes_opens start times is)
repeat-of _ times is = absurd (stays_opens times is)

with_end-keeps : (P : List Item → Type 0) → IsKeptBy P → (items : List Item) (start place : ℕ) (item : Item) (n : Nesting) → (effect_of item.stmt).nesting ≡ n → slice_get items start ≡ Some item → P items → P (with_end items start place item n)
with_end-keeps P k items start place item (nesting.Opens times) is found p =
    let repeat = repeat-of item.stmt times is in
    k.keeps items start place item times repeat.0 found repeat.1 p
with_end-keeps P k items start place item (nesting.Closes other) is found p = p
with_end-keeps P k items start place item nesting.Stays is found p = p

ended-keeps : (P : List Item → Type 0) → IsKeptBy P → (items : List Item) (start place : ℕ) (o : Option Item) → slice_get items start ≡ o → P items
    → P (option_map_or (λ item. with_end items start place item (effect_of item.stmt).nesting) o items)
ended-keeps P k items start place None found p = p
ended-keeps P k items start place (Some item) found p = with_end-keeps P k items start place item (effect_of item.stmt).nesting refl found p

told-keeps : (P : List Item → Type 0) → IsKeptBy P → (items : List Item) (place : ℕ) (n : Nesting) → P items → P (with_end_told items place n)
told-keeps P k items place (nesting.Opens times) p = p
told-keeps P k items place (nesting.Closes start) p = ended-keeps P k items start place (slice_get items start) refl p
told-keeps P k items place nesting.Stays p = p

told_at-keeps : (P : List Item → Type 0) → IsKeptBy P → (items : List Item) (place : ℕ) (o : Option Item) → P items → P (option_map_or (λ item. with_end_told items place (effect_of item.stmt).nesting) o items)
told_at-keeps P k items place None p = p
told_at-keeps P k items place (Some item) p = told-keeps P k items place (effect_of item.stmt).nesting p

pub with_ends-keeps : (P : List Item → Type 0) → IsKeptBy P → (n : ℕ) (items : List Item) → P items → P (with_ends n items)
with_ends-keeps P k zero items p = p
with_ends-keeps P k (suc n) items p = told_at-keeps P k (with_ends n items) n (slice_get (with_ends n items) n) (with_ends-keeps P k n items p)

-- the first split of a communicator stays
split-of : (c : ℕ) (first item : Item) (items : List Item) (times end place : ℕ) → Some first ≡ Some item → item.stmt ≡ stmt.Repeat times end → or_rule (split_rule (effect_of first.stmt).group c) (first_split items c) ≡ first_split items c
split-of c first item items times end place found is =
    let same : first ≡ item = cc in
    ap (λ (s : Stmt). or_rule (split_rule (effect_of s).group c) (first_split items c)) (ap (λ (i : Item). i.stmt) same ∙ is)

split-stays : (c : ℕ) (items : List Item) (start place : ℕ) (item : Item) (times end : ℕ) → slice_get items start ≡ Some item → item.stmt ≡ stmt.Repeat times end
    → first_split (slice_set items start (record item { stmt = stmt.Repeat times place })) c ≡ first_split items c
split-stays c [] start place item times end found is = refl
split-stays c (first ∷ items) zero place item times end found is = sym (split-of c first item items times end place found is)
split-stays c (first ∷ items) (suc start) place item times end found is = ap (or_rule (split_rule (effect_of first.stmt).group c)) (split-stays c items start place item times end found is)

pub rules-with_ends : (n : ℕ) (items : List Item) → rules_of (with_ends n items) ≡ rules_of items
rules-with_ends n items =
    ap (λ (f : ℕ → CommRule). rule.World ∷ map f (range_with_len 1 15))
    (fun_ext (λ c. with_ends-keeps (λ list. first_split list c ≡ first_split items c)
    (record { keeps = λ list start place item times end found is p. split-stays c list start place item times end found is ∙ p }) n items refl))

pub length-with_ends : (n : ℕ) (items : List Item) → length (with_ends n items) ≡ length items
length-with_ends n items =
    with_ends-keeps (λ list. length list ≡ length items)
    (record { keeps = λ list start place item times end found is p. length-set list start (record item { stmt = stmt.Repeat times place }) ∙ p }) n items refl

pub sized-with_ends : (n : ℕ) (items : List Item) → All (λ (i : Item). IsSized i.stmt) items → All (λ (i : Item). IsSized i.stmt) (with_ends n items)
sized-with_ends n items all =
    with_ends-keeps (λ list. All (λ (i : Item). IsSized i.stmt) list)
    (record { keeps = λ list start place item times end found is p. All-set (λ (i : Item). IsSized i.stmt) list start (record item { stmt = stmt.Repeat times place }) tt p }) n items all

pub named-with_ends : (count n : ℕ) (items : List Item) → All (λ (i : Item). IsNamed count (effect_of i.stmt)) items → All (λ (i : Item). IsNamed count (effect_of i.stmt)) (with_ends n items)
named-with_ends count n items all =
    with_ends-keeps (λ list. All (λ (i : Item). IsNamed count (effect_of i.stmt)) list)
    (record { keeps = λ list start place item times end found is p. All-set (λ (i : Item). IsNamed count (effect_of i.stmt)) list start (record item { stmt = stmt.Repeat times place }) (tt, tt) p }) n items all

none_past : (last : ℕ) → 0 ≤ last
none_past last = omega arith

pub comms-with_ends : (last n : ℕ) (items : List Item) → All (λ (i : Item). comm_named (effect_of i.stmt).group ≤ last) items → All (λ (i : Item). comm_named (effect_of i.stmt).group ≤ last) (with_ends n items)
comms-with_ends last n items all =
    with_ends-keeps (λ list. All (λ (i : Item). comm_named (effect_of i.stmt).group ≤ last) list)
    (record { keeps = λ list start place item times end found is p. All-set (λ (i : Item). comm_named (effect_of i.stmt).group ≤ last) list start (record item { stmt = stmt.Repeat times place }) (none_past last) p }) n items all
