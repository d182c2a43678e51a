-- A rank that is away from its chip.
use Rattle.std.specs.Prelude.{◌≡◌, ℕ, ◌<◌, List, [], ◌∷◌, ◌++◌}
use Rattle.scc_base.specs.Setups.{SetupView}
use Rattle.scc_base.specs.declared.events.Event.{Event}
use Rattle.scc_proto.specs.Records.{IsHonest, record_of}
use Rattle.scc_proto.specs.Soundness.{IsSound}
use Rattle.scc_mesh.specs.Keeping.{WasStep}
use Rattle.scc_mesh.specs.Spaces.{ChipId}

-- a rank's token: which chip, the rank, and the list of its events
pub record Ticket : Type 0 where
  pub table : ChipId
  pub rank : ℕ
  pub events : List Event

-- a port of a rank that is away
pub record Away : Type 0 where
  pub about : SetupView
  pub ticket : Ticket

-- the rank is one of the run, and its record is sound
abbrev pub IsSoundAway : SetupView → Ticket → Type 0
IsSoundAway s ticket = (ticket.rank < s.nue) × IsSound s ticket.rank (record_of s ticket.rank ticket.events)

-- what a step with one event does to a token, and tells
pub record MadeAway (s : SetupView) (old : Ticket) (e : Event) (new : Ticket) : Type 0 where
  pub next : new ≡ record old { events = old.events ++ e ∷ [] }
  pub step : WasStep s [] old.rank old.events e
  pub honest : IsHonest s old.rank (record_of s old.rank old.events) e
  pub sound : IsSoundAway s new
