-- How a player gives up, and what it has done before.
use Rattle.std.specs.Prelude.{◌≡◌, ℕ, ◌<◌, List, [], ◌∷◌, ◌++◌, length, take, slice_index_or}
use Rattle.scc_base.specs.Calls.{DataCall, Recv, Send}
use Rattle.scc_base.specs.Heads.{plain_head}
use Rattle.scc_proto.specs.Ports.{Sight, record_in}
use Rattle.scc_mesh.specs.Scenes.{ChipView, about_in, events_in}
use Rattle.send_recv.specs.Calling.{SendStalled}
use Rattle.station.specs.Calls.{at_receive, at_send, after_receive, in_send}
use Rattle.station.specs.Patience.{AfterStalls, SaysWhyAfter, SendStalls}
use Rattle.station.specs.Stations.{StationAt}
use Rattle.station.specs.declared.stops.RecvStop.{RecvStop}
use Rattle.station.specs.declared.stops.SendStall.{SendStall}
use Rattle.station.specs.declared.stops.Stop.{Stop}
use Rattle.station.specs.declared.stops.Stop.TheVariants as stop
use Rattle.ping_pong.specs.Rallies.{Ball, hits, serves}

-- how often a call of a player that stalled goes on
abbrev pub patience : ℕ
patience = 1000

-- a rank that had made these calls began to send a ball: the send stalled, went on so often, and stalled each time
pub record GaveUpSending (polls : ℕ) (done : List DataCall) (to : ℕ) (ball : Ball) (now : Sight) (stall : SendStall) : Type 0 where
  pub begun : Sight
  pub before : StationAt
  pub after : StationAt
  pub calls : (record_in begun).calls ≡ done
  pub stalled : AfterStalls (SendStalls polls) (at_send begun before to ball) patience
      (λ last. SendStalled last polls (in_send now after stall.op ball) stall.spot)

-- a rank that had made these calls began to receive a ball: the receive stalled, went on so often, and stalled each time; or before
-- that it met another message
pub record GaveUpReceiving (polls : ℕ) (done : List DataCall) (from : ℕ) (now : Sight) (why : RecvStop) : Type 0 where
  pub begun : Sight
  pub before : StationAt
  pub after : StationAt
  pub room : Ball
  pub came : Ball
  pub calls : (record_in begun).calls ≡ done
  pub stopped : SaysWhyAfter (at_receive begun before from room) patience polls (after_receive now after came) why

-- the player at rank 0 gave up behind its first rounds: at the serve of the next one, or at the receive of what comes back
pub data ServeStops (polls : ℕ) (base : List DataCall) (balls back : List Ball) (now : Sight) (why : Stop) : Type 0 where
  AtServe : (round : ℕ) → round < length balls → (stall : SendStall) → why ≡ stop.Send stall
      → GaveUpSending polls (base ++ serves (take round balls) (take round back)) 1 (slice_index_or balls round []) now stall
      → ServeStops polls base balls back now why
  AtReturn : (round : ℕ) → round < length balls → (other : RecvStop) → why ≡ stop.Recv other
      → GaveUpReceiving polls ((base ++ serves (take round balls) (take round back))
      ++ Send 1 (plain_head 4) (slice_index_or balls round []) ∷ [])
      1 now other → ServeStops polls base balls back now why

-- the player at rank 1 gave up behind its first rounds: at the receive of the next one, or at its way back
pub data HitStops (polls : ℕ) (base : List DataCall) (seen : List Ball) (now : Sight) (why : Stop) : Type 0 where
  AtArrival : (round : ℕ) → round < length seen → (other : RecvStop) → why ≡ stop.Recv other
      → GaveUpReceiving polls (base ++ hits (take round seen)) 0 now other → HitStops polls base seen now why
  AtHit : (round : ℕ) → round < length seen → (stall : SendStall) → why ≡ stop.Send stall
      → GaveUpSending polls ((base ++ hits (take round seen)) ++ Recv 0 (plain_head 4) (slice_index_or seen round []) ∷ [])
      0 (slice_index_or seen round []) now stall → HitStops polls base seen now why

-- what a rank's port showed that has come home: the chip has its events
pub record HasCome (chip : ChipView) (rank : ℕ) (now : Sight) : Type 0 where
  pub setup : now.seat.setup ≡ about_in chip
  pub is_rank : now.seat.rank ≡ rank
  pub events : now.events ≡ events_in chip rank
