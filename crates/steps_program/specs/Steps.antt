-- Successive accesses, and who has made them.
use Rattle.std.specs.Prelude.{◌≡◌, ℕ, zero, suc, ◌%◌, List, [], ◌∷◌, ◌++◌, map}
use Rattle.scc_base.specs.Places.{WordAt}
use Rattle.scc_base.specs.Setups.{host_of}
use Rattle.scc_base.specs.declared.events.Access.{Access}
use Rattle.scc_base.specs.declared.events.Access.TheVariants.{Load, Store}
use Rattle.scc_base.specs.declared.events.Event.{Event}
use Rattle.scc_mesh.specs.AwayRanks.{Ticket}
use Rattle.scc_mesh.specs.Scenes.{ChipView, about_in, table_in, events_in}
use Rattle.steps_program.specs.declared.accesses.Kind.{Kind}
use Rattle.steps_program.specs.declared.accesses.Kind.TheVariants.{Loads, Stores}
use Rattle.scc_proto.specs.Ports.{Sight}

-- an event without its value
pub record Step : Type 0 where
  pub access : Access
  pub place : WordAt

-- the access and the place of an event
abbrev pub access_step : Event → Step
access_step e = record { access = e.access; place = e.place }

-- the accesses and the places of events
abbrev pub access_steps : List Event → List Step
access_steps events = map access_step events

-- the access of a kind: a load or a store
abbrev pub access_of : Kind → Access
access_of Loads = Load
access_of Stores = Store

-- access n at a core: a store or a load of one of the four words of a heap line, in rotation
abbrev pub step_at : Kind → ℕ → ℕ → Step
step_at kind core n = record { access = access_of kind; place = record { core = core; line = 240; word = n % 4 } }

-- the first n accesses, in order
unfoldable pub in_turn : Kind → ℕ → ℕ → List Step
in_turn kind core zero = []
in_turn kind core (suc n) = in_turn kind core n ++ step_at kind core n ∷ []

-- the core of a port's rank
abbrev pub home_core : Sight → ℕ
home_core sight = host_of sight.seat.setup.hosts sight.seat.rank

-- a port of the same rank, after `count` more accesses
pub record Stepped (old : Sight) (kind : Kind) (count : ℕ) (new : Sight) : Type 0 where
  pub seat : new.seat ≡ old.seat
  pub steps : access_steps new.events ≡ access_steps old.events ++ in_turn kind (home_core old) count

-- rank 0 has made `count` accesses, and its port is with the chip
pub record HasMade (chip : ChipView) (kind : Kind) (count : ℕ) : Type 0 where
  pub steps : access_steps (events_in chip 0) ≡ in_turn kind (host_of (about_in chip).hosts 0) count

-- rank 0 has made `count` accesses, and its port is in a thread
pub record HasMadeAway (chip : ChipView) (token : Ticket) (kind : Kind) (count : ℕ) : Type 0 where
  pub of_chip : token.table ≡ table_in chip
  pub rank : token.rank ≡ 0
  pub steps : access_steps token.events ≡ in_turn kind (host_of (about_in chip).hosts 0) count
