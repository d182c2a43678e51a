-- How many repeats of a rank are open at each place of a script, and which places have items of the rank.
use Rattle.std.specs.Prelude.{◌≡◌, ℕ, zero, suc, ◌+◌, ◌-◌, ◌<◌, ◌≤◌, false, List, [], ◌∷◌, length, slice_get, Some}
use Rattle.script_machine.specs.Program.{nesting_at}
use Rattle.script_rules.specs.declared.effect.Nesting.{Nesting}
use Rattle.script_rules.specs.declared.effect.Nesting.TheVariants as nesting
use Rattle.script_machine.specs.declared.course.Open.{Open}
use Rattle.script_rules.specs.declared.script.Item.{Item}
use Rattle.script_rules.specs.Script.{has_rank}

-- how many repeats are open after an item, if `depth` are open before it
abbrev pub depth_after : Nesting → ℕ → ℕ
depth_after (nesting.Opens times) depth = depth + 1
depth_after (nesting.Closes start) depth = depth - 1
depth_after nesting.Stays depth = depth

-- how many repeats of a rank are open before the item at a place, if `depth` are open before the first one
abbrev pub depth_from : ℕ → ℕ → ℕ → List Item → ℕ
depth_from rank depth zero items = depth
depth_from rank depth (suc place) [] = depth
depth_from rank depth (suc place) (item ∷ items) = depth_from rank (depth_after (nesting_at rank item) depth) place items

-- how many repeats of a rank are open before the item at a place
abbrev pub depth_at : ℕ → List Item → ℕ → ℕ
depth_at rank items place = depth_from rank 0 place items

-- at the start of each open repeat, it and those around it are open
abbrev pub AreHeld : ℕ → List Item → List Open → Type 0
AreHeld rank items [] = Unit {0}
AreHeld rank items (o ∷ repeats) = (length repeats < depth_at rank items o.start) × AreHeld rank items repeats

-- at this place, and at the start of each of these repeats, at least so many repeats are open by the items before
pub record IsDeep (rank : ℕ) (items : List Item) (place : ℕ) (repeats : List Open) : Type 0 where
  pub here : length repeats ≤ depth_at rank items place
  pub held : AreHeld rank items repeats

-- a table of this capacity can hold the repeats that are open at each place
abbrev pub HasRoom : ℕ → List Item → ℕ → Type 0
HasRoom rank items room = (place : ℕ) → depth_at rank items place ≤ room

-- no item before a place is the rank's
abbrev pub IsIdleTo : ℕ → List Item → ℕ → Type 0
IsIdleTo rank items first = (place : ℕ) (item : Item) → place < first → slice_get items place ≡ Some item → has_rank item.who rank ≡ false

-- no item from a place of the script on is the rank's
pub record IsIdleFrom (rank : ℕ) (items : List Item) (end : ℕ) : Type 0 where
  pub within : end ≤ length items
  pub idle : (place : ℕ) (item : Item) → end ≤ place → slice_get items place ≡ Some item → has_rank item.who rank ≡ false
