-- How the repeats of a script that was read are closed (this project's profile).
use Rattle.std.specs.Prelude.{◌≡◌, ℕ, ◌<◌, ◌≤◌, List, [], ◌∷◌, length, reverse, slice_get, Option, Some, None}
use Rattle.std.specs.Option.{option_map}
use Rattle.script_rules.specs.declared.effect.Nesting.{Nesting}
use Rattle.script_rules.specs.declared.effect.Nesting.TheVariants as nesting
use Rattle.script_rules.specs.declared.repeats.Open.{Open}
use Rattle.script_rules.specs.declared.script.Item.{Item}
use Rattle.script_rules.specs.declared.script.Stmt.{Stmt}
use Rattle.script_rules.specs.declared.script.Stmt.TheVariants as stmt
use Rattle.script_rules.specs.declared.script.Who.{Who}
use Rattle.script_rules.specs.Checks.{innermost, open_of}
use Rattle.script_rules.specs.Effects.{effect_of}
use Rattle.script_rules.specs.Script.{Script}

-- an `end` closes the innermost open repeat, and there is one
abbrev pub Closes : List Open → Nesting → Type 0
Closes repeats (nesting.Opens times) = Unit {0}
Closes repeats (nesting.Closes start) = (1 ≤ length repeats) × (start ≡ innermost repeats)
Closes repeats nesting.Stays = Unit {0}

-- each `end` among these statements, the latest first, closes the innermost repeat that is open before it
abbrev pub AreMatched : List Item → Type 0
AreMatched [] = Unit {0}
AreMatched (item ∷ past) = AreMatched past × Closes (open_of past) (effect_of item.stmt).nesting

-- the statement at a place, if there is one
abbrev pub stmt_at : List Item → ℕ → Option Stmt
stmt_at items place = option_map (λ item. item.stmt) (slice_get items place)

-- each repeat names the place of its `end`, which comes later and names the repeat
abbrev pub HaveEnds : List Item → Type 0
HaveEnds items =
    (place times end : ℕ) → stmt_at items place ≡ Some (stmt.Repeat times end) → (place < end) × (stmt_at items end ≡ Some (stmt.End place))

-- the section of the latest statement
abbrev pub latest_section : List Item → Option Who
latest_section [] = None
latest_section (item ∷ past) = Some item.who

-- while a repeat is open, no statement starts another section (the latest statement first)
abbrev pub StayInSection : List Item → Type 0
StayInSection [] = Unit {0}
StayInSection (item ∷ past) = StayInSection past × (1 ≤ length (open_of past) → latest_section past ≡ Some item.who)

-- a repeat runs at least once
abbrev pub HasPass : Nesting → Type 0
HasPass (nesting.Opens times) = 1 ≤ times
HasPass (nesting.Closes start) = Unit {0}
HasPass nesting.Stays = Unit {0}

-- each repeat among the statements runs at least once
abbrev pub HavePasses : List Item → Type 0
HavePasses [] = Unit {0}
HavePasses (item ∷ past) = HavePasses past × HasPass (effect_of item.stmt).nesting

-- the repeats of a script are well nested: each is closed by its own `end` in the same section, names the place of that `end`,
-- and runs at least once
pub record IsClosed (script : Script) : Type 0 where
  pub none_open : open_of (reverse script.items) ≡ []
  pub matched : AreMatched (reverse script.items)
  pub ended : HaveEnds script.items
  pub within : StayInSection (reverse script.items)
  pub once : HavePasses (reverse script.items)
