-- A monitor that has followed a rank to a record, and what one move more does.
use Rattle.std.specs.Prelude.{◌≡◌, ℕ, Bool, true, List, [], ◌∷◌, ◌++◌, Option, None, Some, Result, Ok, Err, IsOk, ◌↔◌}
use Rattle.scc_base.specs.Calls.{DataCall, Send, Recv, Post, Bar, call_of}
use Rattle.scc_base.specs.Places.{WordAt}
use Rattle.scc_base.specs.declared.calls.Call.{Call}
use Rattle.scc_base.specs.declared.events.Access.{Access}
use Rattle.scc_base.specs.declared.events.Event.{Event}
use Rattle.scc_proto.specs.Moves.{Move, after, calls_after}
use Rattle.scc_proto.specs.Permission.{permits}
use Rattle.scc_proto.specs.Records.{IsPermitted, record_after}
use Rattle.scc_proto.specs.Stages.{Stage, Idle, Drafting, Record}
use Rattle.rank_monitor.specs.Held.{KeepsHeld}
use Rattle.rank_monitor.specs.Standing.{StandsFor}
use Rattle.rank_monitor.specs.declared.monitors.RankMonitor.{RankMonitor}
use Rattle.rank_monitor.specs.declared.monitors.Refused.{Refused}
use Rattle.rank_monitor.specs.declared.works.Work.{Work}

-- the bytes that a call moves
abbrev pub moved_by : DataCall → List ℕ
moved_by (Send to head bytes) = bytes
moved_by (Recv from head bytes) = bytes
moved_by (Post to head bytes) = bytes
moved_by (Bar comm) = []

-- calls have gained this one, with these bytes, or none
abbrev pub Adds : Option Call → List ℕ → List DataCall → List DataCall → Type 0
Adds None bytes old new = new ≡ old
Adds (Some call) bytes old new = (done : DataCall) × (call_of done ≡ call) × (moved_by done ≡ bytes) × (new ≡ old ++ done ∷ [])

-- a refused event finishes no call
abbrev pub FinishesCall : Result (Option Call) Refused → List ℕ → List DataCall → List DataCall → Type 0
FinishesCall (Ok call) bytes old new = Adds call bytes old new
FinishesCall (Err refused) bytes old new = new ≡ old

-- a test that is true if and only if a record permits a move
abbrev pub Decides : Work → Move → Bool → Type 0
Decides w move test = (rec : Record) → StandsFor w rec → test ≡ permits w.size move rec

-- a monitor's work has followed a rank through one more move, and returns the call that the move finishes
pub record MovedOn (size : ℕ) (w : Work) (rec : Record) (move : Move) (call : Option Call) : Type 0 where
  pub stands : StandsFor w (after size move rec)
  pub adds : Adds call w.bytes.items rec.calls (calls_after size move rec)

-- a monitor's work has followed the move, from each record that it follows and that permits the move
abbrev pub MovesOn : Work → Work → Move → Option Call → Type 0
MovesOn old new move call = (rec : Record) → StandsFor old rec → permits old.size move rec ≡ true → MovedOn old.size new rec move call

-- a monitor has followed its rank to this record
pub record FollowsRecord (m : RankMonitor) (rec : Record) : Type 0 where
  pub stands : StandsFor m.work rec
  pub held : KeepsHeld m.held rec.held

-- an access as an event
abbrev pub event_of : Access → WordAt → ℕ → Event
event_of access place value = record { access = access; place = place; value = value }

-- a monitor has taken an event, or refused it
pub record Takes (old : RankMonitor) (e : Event) (new : RankMonitor) (answer : Result (Option Call) Refused) : Type 0 where
  pub setup : new.setup ≡ old.setup
  pub rank : new.rank ≡ old.rank
  pub permitted : (rec : Record) → FollowsRecord old rec → IsOk answer ↔ IsPermitted old.setup old.rank rec e
  pub follows : (rec : Record) → FollowsRecord old rec → FollowsRecord new (record_after old.setup old.rank rec e)
  pub finishes : (rec : Record) → FollowsRecord old rec
      → FinishesCall answer new.work.bytes.items rec.calls (record_after old.setup old.rank rec e).calls

-- the stage in which a message is half written, if the rank was between calls before
abbrev pub with_draft_open : Stage → Stage
with_draft_open Idle = Drafting [] []
with_draft_open stage = stage

-- a monitor's work has begun a half-written message
abbrev pub OpensDraft : Work → Work → Type 0
OpensDraft old new = (rec : Record) → StandsFor old rec → StandsFor new (record rec { stage = with_draft_open rec.stage })
