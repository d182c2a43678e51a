-- Gather, scatter, allgather and alltoall as calls of a station (this project's own: RCCE has none of them).
use Rattle.std.specs.Prelude.{◌≡◌, ℕ, List, Some}
use Rattle.scc_base.specs.Calls.{DataCall}
use Rattle.scc_base.specs.Heads.{MessageHead}
use Rattle.scc_base.specs.declared.events.Event.{Event}
use Rattle.scc_base.specs.declared.events.Spot.{Spot}
use Rattle.scc_proto.specs.Ports.{Did, Sight, record_in}
use Rattle.sync_flags.specs.Tries.{Aim, TryFailed, spot_of}
use Rattle.barrier.specs.Flags.{IsParityOf}
use Rattle.coll_more.specs.Ops.{MoreAt, Participant, taking_part}
use Rattle.coll_more.specs.Standing.{MoreStands}
use Rattle.coll_more.specs.Turns.{MetOther, stage_aim}
use Rattle.station.specs.Stations.{HoldsNoRegister, StationAt}
use Rattle.station.specs.declared.stops.CollStop.{CollStop}
use Rattle.station.specs.declared.stops.CollStop.TheVariants.{Stalled, Mismatch}

-- a rank in a collective call, by what its port and its station show, and its two buffers
abbrev pub in_collective : Sight → StationAt → MoreAt → (src dst : List ℕ) → Participant
in_collective s a op src dst = taking_part s a.core op a.slot src dst

-- the rank stands in this collective call, before which it had made these calls; all else is as between two calls
pub record IsInCollective (base : List DataCall) (s : Sight) (a : StationAt) (op : MoreAt) (src dst : List ℕ) : Type 0 where
  pub stands : MoreStands base (in_collective s a op src dst)
  pub parity : IsParityOf (record_in s) a.parity
  pub registers : HoldsNoRegister (record_in s)

-- a collective call gave up: its last `polls` tries were vain, all where its message in hand looks
pub record MoreStalled (old : Participant) (polls : ℕ) (now : Participant) (spot : Spot) : Type 0 where
  pub events : List Event
  pub did : Did old.sight events now.sight
  pub same : (now.op.more ≡ old.op.more) × (now.op.len ≡ old.op.len)
  pub aim : Aim
  pub looks : stage_aim now.sight.seat now.slot now.op.stage ≡ Some aim
  pub at : spot ≡ spot_of aim
  pub tried : TryFailed aim polls events

-- a collective call met a message with another head than that of its message in hand: it stays untaken
pub record MoreDiffers (old now : Participant) (sent : MessageHead) : Type 0 where
  pub same : (now.op.more ≡ old.op.more) × (now.op.len ≡ old.op.len)
  pub met : MetOther (record_in now.sight) sent now.op.stage

-- where a collective call stands that stopped
abbrev pub op_of : CollStop → MoreAt
op_of (Stalled stall) = stall.op
op_of (Mismatch op sent) = op

-- why a collective call stopped, which stands there now
abbrev pub StopsTurns : Participant → ℕ → Participant → CollStop → Type 0
StopsTurns old polls now (Stalled stall) = (stall.polls ≡ polls) × MoreStalled old polls now stall.spot
StopsTurns old polls now (Mismatch op sent) = MoreDiffers old now sent
