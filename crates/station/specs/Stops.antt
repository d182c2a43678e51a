-- What a call of a station that stopped leaves.
use Rattle.std.specs.Prelude.{◌≡◌, ℕ, List, Result, Ok, Err}
use Rattle.scc_base.specs.Calls.{DataCall}
use Rattle.scc_proto.specs.Ports.{Sight, record_in}
use Rattle.barrier.specs.declared.barriers.BarStop.{BarStop}
use Rattle.barrier.specs.declared.barriers.BarStop.TheVariants as bar_stop
use Rattle.send_recv.specs.Calling.{RecvDiffers, RecvStalled}
use Rattle.send_recv.specs.Ranks.{BufferHolder, Receiver, receiving}
use Rattle.send_recv.specs.Receiving.{recv_call}
use Rattle.station.specs.Stations.{NoCallOpen, IsInReceive, StationAt}
use Rattle.send_recv.specs.declared.calls.RecvStop as message
use Rattle.send_recv.specs.declared.calls.RecvStop.TheVariants as message_stop
use Rattle.station.specs.declared.stops.BarStall.{BarStall}
use Rattle.station.specs.declared.stops.RecvStall.{RecvStall}
use Rattle.station.specs.declared.stops.RecvStop.{RecvStop}
use Rattle.station.specs.declared.stops.RecvStop.TheVariants.{Stalled, Mismatch}

-- after a receive that gave up the rank stands in it; after one that met another head it is between two calls
abbrev pub StopsReceive : Sight → StationAt → List ℕ → RecvStop → Type 0
StopsReceive s a bytes (Stalled stall) = IsInReceive s a stall.op bytes
StopsReceive s a bytes (Mismatch sent asked) = NoCallOpen s a

-- why a receive stopped: as many tries as it was allowed were vain at the end, or it met another head
abbrev pub SaysWhy : Receiver → ℕ → BufferHolder → RecvStop → Type 0
SaysWhy old polls now (Stalled stall) =
    (stall.polls ≡ polls) × RecvStalled old polls (receiving now.sight now.core stall.op now.bytes) stall.spot
SaysWhy old polls now (Mismatch sent asked) = RecvDiffers old polls now sent asked

-- the stall of a receive that gave up, and else why it stopped
abbrev pub stall_or_stop : RecvStop → Result RecvStall RecvStop
stall_or_stop (Stalled stall) = Ok stall
stall_or_stop (Mismatch sent asked) = Err (Mismatch sent asked)

-- a stop of send_recv in the words of a station
abbrev pub recv_stop_of : message.RecvStop → RecvStop
recv_stop_of (message_stop.Stalled op spot polls) = Stalled (record { op = op; spot = spot; polls = polls })
recv_stop_of (message_stop.Mismatch sent asked) = Mismatch sent asked

-- a barrier's stop of a station, in the words of the crate barrier
abbrev pub bar_stop_of : BarStall → BarStop
bar_stop_of stall = bar_stop.Stalled stall.op stall.spot stall.polls

-- after a receive that stopped no call more was made; where it gave up, it is to make this one still (this project's profile)
abbrev pub Owes : (List ℕ → List DataCall) → Sight → Sight → RecvStop → Type 0
Owes call s t (Stalled stall) = ((record_in t).calls ≡ (record_in s).calls) × ((bytes : List ℕ) → recv_call stall.op bytes ≡ call bytes)
Owes call s t (Mismatch sent asked) = (record_in t).calls ≡ (record_in s).calls
