-- What a worker did through a port with a tap on it, its logger did through the port.
use Rattle.std.proofs.Common.{ℕ, List, Option}
use Rattle.scc_base.specs.Setups.{SetupView}
use Rattle.scc_base.specs.declared.events.Event.{Event}
use Rattle.scc_base.specs.declared.events.Turn.{Turn}
use Rattle.scc_base.specs.declared.events.Turn.TheVariants as turn
use Rattle.scc_proto.specs.Ports.{Sight}
use Rattle.call_tap.specs.declared.taps.Tap.{Tap}
use Rattle.chip_run.specs.Behaves.{Behaviour}
use Rattle.chip_run.specs.Turns.{TurnMeans, Turned}
use Rattle.log_run.specs.declared.loggers.Logger.{Logger}
use Rattle.log_run.specs.Loggers.{loggers_of}

-- a logger with this worker and this in the place for its tap
abbrev pub with_tap : {A : Type 0} → Option Tap → A → Logger A
with_tap tap w = record { worker = w; tap = tap }

module _ {A : Type 0} (c : Behaviour A) (stepped : List Event → Event → Type 0) where
  means_logged : (one other : Option Tap) (s : SetupView) (rank : ℕ) (own events : List Event) (old new : A) (answer : Turn) → TurnMeans c stepped s rank own events old new answer
      → TurnMeans (loggers_of c) stepped s rank own events (with_tap one old) (with_tap other new) answer
  means_logged one other s rank own events old new turn.Moved means = record { moves = means.moves; less = means.less }
  means_logged one other s rank own events old new (turn.Waiting spot) means =
      record { stays = means.stays; seen = means.seen; rests = means.rests; alike = means.alike; look = means.look }
  means_logged one other s rank own events old new turn.Done means = record { stays = means.stays; seen = means.seen; nothing = means.nothing; over = means.over }

  pub turned_logged : (one other : Option Tap) (old : A) (s : Sight) (new : A) (t : Sight) (answer : Turn) → Turned c stepped old s new t answer
      → Turned (loggers_of c) stepped (with_tap one old) s (with_tap other new) t answer
  turned_logged one other old s new t answer turned =
      record { events = turned.events; did = turned.did; means = means_logged one other s.seat.setup s.seat.rank s.events turned.events old new answer turned.means }
