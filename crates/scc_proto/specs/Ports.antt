-- What a port is to a contract: whose port it is, and the events made through it.
use Rattle.std.specs.Prelude.{◌≡◌, ℕ, List, [], ◌∷◌, ◌++◌}
use base.Stored.{Gv}
use Rattle.scc_base.specs.Setups.{SetupView}
use Rattle.scc_base.specs.declared.events.Event.{Event}
use Rattle.scc_proto.specs.Stages.{Record}
use Rattle.scc_proto.specs.Records.{IsPermitted, IsHonest, record_after, record_of}
use Rattle.scc_proto.specs.Soundness.{IsSound}

-- a port's seat: its setup, its rank and what else no call of the port changes
pub record Seat : Type 0 where
  pub setup : SetupView
  pub rank : ℕ
  -- the chip of the port
  pub mark : Gv
  -- the lists of the other ranks, where the port has them
  pub rest : Gv
  -- the name of the chip that the port holds, where it holds one
  pub hold : ℕ

-- a seat and the events of its rank so far, the oldest first
pub record Sight : Type 0 where
  pub seat : Seat
  pub events : List Event

-- the record of a port's events
unfoldable pub record_in : Sight → Record
record_in sight = record_of sight.seat.setup sight.seat.rank sight.events

-- a record after one more event of a seat
unfoldable pub record_next : Seat → Record → Event → Record
record_next seat rec e = record_after seat.setup seat.rank rec e

-- a sight with more events, in the same seat
abbrev pub and_then : Sight → List Event → Sight
and_then sight events = record sight { events = sight.events ++ events }

-- a record permits an event of the seat next
abbrev pub MayMake : Seat → Record → Event → Type 0
MayMake seat rec e = IsPermitted seat.setup seat.rank rec e

-- a record permits these events of the seat, one after the other
abbrev pub MayMakeAll : Seat → Record → List Event → Type 0
MayMakeAll seat rec [] = Unit {0}
MayMakeAll seat rec (e ∷ es) = MayMake seat rec e × MayMakeAll seat (record_next seat rec e) es

-- an event that a port has made: it was permitted, and a load answered the noted value
pub record WasMade (seat : Seat) (rec : Record) (e : Event) : Type 0 where
  pub permitted : MayMake seat rec e
  pub honest : IsHonest seat.setup seat.rank rec e

-- a port has made these events, one after the other: each was permitted, and each load answered the noted value
abbrev pub WereMade : Seat → Record → List Event → Type 0
WereMade seat rec [] = Unit {0}
WereMade seat rec (e ∷ es) = WasMade seat rec e × WereMade seat (record_next seat rec e) es

-- the record after more events
abbrev pub record_on : Seat → Record → List Event → Record
record_on seat rec [] = rec
record_on seat rec (e ∷ es) = record_on seat (record_next seat rec e) es

-- a port's events were continued by these, and nothing else changed
pub record Did (old : Sight) (events : List Event) (new : Sight) : Type 0 where
  pub continues : new ≡ and_then old events
  pub made : WereMade old.seat (record_in old) events

-- the port's record is sound
abbrev pub IsSoundPort : Sight → Type 0
IsSoundPort sight = IsSound sight.seat.setup sight.seat.rank (record_in sight)
