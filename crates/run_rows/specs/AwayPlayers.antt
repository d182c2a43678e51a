-- A player whose rank's port is in a thread.
use Rattle.std.specs.Prelude.{◌≡◌, ℕ, List, Option, IsSomeAnd}
use Rattle.scc_base.specs.Setups.{SetupView}
use Rattle.scc_base.specs.declared.events.Event.{Event}
use Rattle.scc_mesh.specs.AwayRanks.{Ticket}
use Rattle.scc_mesh.specs.Spaces.{ChipId}

-- a rank of this chip has its port in a thread, and this condition on its setup, its number and its events holds
abbrev pub StandsAway : (SetupView → ℕ → List Event → Type 0) → SetupView → ChipId → Option Ticket → Type 0
StandsAway stands s table token = IsSomeAnd token (λ t. (t.table ≡ table) × stands s t.rank t.events)
