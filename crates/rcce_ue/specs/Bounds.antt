-- How many turns a script gives a rank at most (this project's profile).
use Rattle.std.specs.Prelude.{ℕ, ◌+◌, ◌-◌, ◌*◌, if◌then◌else◌, List, [], ◌∷◌, length}
use Rattle.scc_base.specs.Setups.{SetupView}
use Rattle.script_rules.specs.Script.{Script, has_rank}
use Rattle.script_rules.specs.declared.script.Item.{Item}
use Rattle.script_machine.specs.Lengths.{lengths_of}
use Rattle.script_machine.specs.Local.{local_start}
use Rattle.script_machine.specs.Program.{call_steps, collective_of, nesting_at, program_of, setup_of}
use Rattle.script_machine.specs.declared.prims.Collective.{Collective}
use Rattle.script_rules.specs.declared.effect.Nesting.{Nesting}
use Rattle.script_rules.specs.declared.effect.Nesting.TheVariants as nesting
use Rattle.std.specs.Prelude.{Option, Some, None}
use Rattle.rcce_ue.specs.Left.{bounds_left}

-- the steps of a statement's collective call, if it is one
abbrev pub steps_by : SetupView → ℕ → Option Collective → ℕ
steps_by s rank None = 0
steps_by s rank (Some call) = length (call_steps s rank call.coll)

-- an item of the rank counts once, and each step of its collective call once
abbrev pub item_visits : SetupView → ℕ → Item → ℕ
item_visits s rank item = if has_rank item.who rank then 1 + steps_by s rank (collective_of item.stmt) else 0

-- what items count up to the end of the repeat that stands open before them, and then behind each end that closes a repeat
-- which stands open before them, up to the next such end
pub record Visits : Type 0 where
  pub here : ℕ
  pub afterwards : List ℕ

-- a repeat's body counts as often as it runs
abbrev pub visits_repeated : ℕ → ℕ → ℕ → List ℕ → Visits
visits_repeated own times body [] = record { here = own + body; afterwards = [] }
visits_repeated own times body (next ∷ afterwards) = record { here = own + (body + ((times - 1) * body + next)); afterwards = afterwards }

-- the visits of one item more, in front of those of the items behind it
abbrev pub visits_in_front : Nesting → ℕ → Visits → Visits
visits_in_front (nesting.Opens times) own v = visits_repeated own times v.here v.afterwards
visits_in_front (nesting.Closes start) own v = record { here = own; afterwards = v.here ∷ v.afterwards }
visits_in_front nesting.Stays own v = record { here = own + v.here; afterwards = v.afterwards }

-- the visits of items for a rank
unfoldable pub visits_of : SetupView → ℕ → List Item → Visits
visits_of s rank [] = record { here = 0; afterwards = [] }
visits_of s rank (item ∷ items) = visits_in_front (nesting_at rank item) (item_visits s rank item) (visits_of s rank items)

-- the items of a rank, `repeat` and `end` among them, and the steps of its collective calls, each as often as it runs
abbrev pub visits : Script → ℕ → ℕ
visits script rank = (visits_of (setup_of script) rank script.items).here

-- the sum of the bounds of its messages and barriers, in a setup
abbrev pub bounds_of : SetupView → Script → ℕ → ℕ
bounds_of s script rank = bounds_left s rank (lengths_of (local_start script rank)) (program_of script rank)
