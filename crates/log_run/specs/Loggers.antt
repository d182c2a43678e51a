-- Workers whose calls are kept (this project's profile).
use Rattle.std.specs.Prelude.{ℕ, List, Option, Some, None}
use Rattle.scc_base.specs.Setups.{SetupView}
use Rattle.scc_base.specs.declared.events.Event.{Event}
use Rattle.call_tap.specs.declared.taps.Tap.{Tap}
use Rattle.call_tap.specs.Taps.{HasRead}
use Rattle.chip_run.specs.Behaves.{Behaviour}
use Rattle.log_run.specs.declared.loggers.Logger.{Logger}

-- a tap is in its place, and has read these events of a rank
abbrev pub IsTapped : Option Tap → SetupView → ℕ → List Event → Type 0
IsTapped None s rank events = ⊥
IsTapped (Some tap) s rank events = HasRead tap s rank events

-- a worker stands where these events of its rank stand, and its tap has read them
pub record IsLogging (tied : SetupView → ℕ → List Event → Type 0) (tap : Option Tap) (s : SetupView) (rank : ℕ)
    (events : List Event) : Type 0 where
  pub ties : tied s rank events
  pub tapped : IsTapped tap s rank events

-- how loggers conduct themselves, each with its tap in its place: as their workers do
abbrev pub loggers_of : {A : Type 0} → Behaviour A → Behaviour (Logger A)
loggers_of c = record {
  seen = λ s r l. c.seen s r l.worker;
  tied = λ l. IsLogging (c.tied l.worker) l.tap;
  moves = λ l m. c.moves l.worker m.worker;
  stays = λ l m. c.stays l.worker m.worker;
}
