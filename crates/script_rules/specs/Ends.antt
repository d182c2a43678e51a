-- The items of a script that was read: each repeat has the place of its end (this project's profile).
use Rattle.std.specs.Prelude.{ℕ, zero, suc, List, slice_get, slice_set}
use Rattle.std.specs.Option.{option_map_or}
use Rattle.script_rules.specs.declared.effect.Nesting.{Nesting}
use Rattle.script_rules.specs.declared.effect.Nesting.TheVariants as nesting
use Rattle.script_rules.specs.declared.script.Item.{Item}
use Rattle.script_rules.specs.declared.script.Stmt.TheVariants as stmt
use Rattle.script_rules.specs.Effects.{effect_of}

-- the items, where the repeat at `start` has its end at `place`
abbrev pub with_end : List Item → ℕ → ℕ → Item → Nesting → List Item
with_end items start place item (nesting.Opens times) = slice_set items start (record item { stmt = stmt.Repeat times place })
with_end items start place item (nesting.Closes other) = items
with_end items start place item nesting.Stays = items

-- the items, where the item at `start` has its end at `place` if it is a repeat
abbrev pub with_end_at : List Item → ℕ → ℕ → List Item
with_end_at items start place =
    option_map_or (λ item. with_end items start place item (effect_of item.stmt).nesting) (slice_get items start) items

-- the items after an `end` at `place` has given its place to its repeat
abbrev pub with_end_told : List Item → ℕ → Nesting → List Item
with_end_told items place (nesting.Opens times) = items
with_end_told items place (nesting.Closes start) = with_end_at items start place
with_end_told items place nesting.Stays = items

-- the items after the item at a place, if it is an `end`, has given its place to its repeat
abbrev pub told_at : List Item → ℕ → List Item
told_at items place = option_map_or (λ item. with_end_told items place (effect_of item.stmt).nesting) (slice_get items place) items

-- the items after each `end` among the first n has given its place to its repeat
abbrev pub with_ends : ℕ → List Item → List Item
with_ends zero items = items
with_ends (suc n) items = told_at (with_ends n items) n
