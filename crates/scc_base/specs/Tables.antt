-- What a setup keeps of a communicator's groups, so that a call need not walk the splits.
use Rattle.std.specs.Prelude.{◌≡◌, ℕ, ◌<◌, List, [], slice_index, slice_index_or, ◌==◌}
use Rattle.scc_base.specs.Groups.{place_in, root_in}
use Rattle.scc_base.specs.Communicators.{key_of}
use Rattle.scc_base.specs.declared.communicators.CommRule.{CommRule}
use Rattle.scc_base.specs.declared.communicators.Grouping.{Grouping}

-- the table has the root and the place of each rank, by keys
pub record ShowsGroup (key : ℕ → ℕ) (table : Grouping) : Type 0 where
  pub roots : (r : ℕ) → r < 48 → slice_index table.roots r ≡ root_in key r
  pub places : (r : ℕ) → r < 48 → slice_index table.places r ≡ place_in key r

-- a table without a root and without a place
abbrev pub no_table : Grouping
no_table = record { roots = []; places = [] }

-- the tables of the first n communicators are those of their keys
abbrev pub ShowAll : List CommRule → ℕ → List Grouping → Type 0
ShowAll comms n tables = (comm : ℕ) → comm < n → ShowsGroup (key_of comms comm) (slice_index_or tables comm no_table)

-- the labels tell the groups of the keys: equal labels are equal keys
abbrev pub HasKeys : (ℕ → ℕ) → List ℕ → Type 0
HasKeys key labels = (r q : ℕ) → r < 48 → q < 48 → (slice_index labels r == slice_index labels q) ≡ (key r == key q)
