-- A team: the ranks of one chip from 0 on, each with what it knows of its events, while each rank's port is with the chip.
use Rattle.std.specs.Prelude.{◌≡◌, ℕ, ◌<◌, ◌≤◌, List, [], length, slice_index_or}
use base.Stored.{gnil}
use Rattle.scc_base.specs.Setups.{SetupView}
use Rattle.scc_base.specs.declared.events.Event.{Event}
use Rattle.scc_proto.specs.Ports.{Sight}
use Rattle.scc_mesh.specs.Scenes.{ChipView, IsWhole, about_in, events_in}

-- a team seen from outside: the setup of its chip, and how many ranks have a player
pub record TeamView : Type 0 where
  pub about : SetupView
  pub size : ℕ

-- the events of a rank, as a port of that rank would show them
abbrev pub sight_alone : SetupView → ℕ → List Event → Sight
sight_alone s r events = record { seat = record { setup = s; rank = r; mark = gnil; rest = gnil; hold = 0 }; events = events }

-- each rank's port is with the chip, each player's `stands` holds for the events of its rank, and ranks without a player have made no event
pub record IsTeam {A : Type 0} (stands : A → SetupView → ℕ → List Event → Type 0) (chip : ChipView) (players : List A) : Type 0 where
  pub whole : IsWhole chip
  pub fits : length players ≤ (about_in chip).nue
  pub each : (r : ℕ) (player : A) → r < length players → player ≡ slice_index_or players r player
      → stands player (about_in chip) r (events_in chip r)
  pub empty : (r : ℕ) → length players ≤ r → events_in chip r ≡ []
