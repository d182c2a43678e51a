-- What the stops of a station print: which call stopped, and why (this project's profile).
use Rattle.std.specs.Prelude.{ℕ, List, ◌++◌, codes, decimal}
use Rattle.scc_base.specs.Heads.{MessageHead, kind_at, kind_text}
use Rattle.scc_base.specs.declared.events.Spot.{Spot}
use Rattle.scc_base.specs.declared.events.Spot.TheVariants as spot
use Rattle.mpb_alloc.specs.declared.heap.MallocFault.{MallocFault}
use Rattle.mpb_alloc.specs.declared.heap.MallocFault.TheVariants.{Empty, Full}
use Rattle.put_get.specs.declared.transfers.RangeFault.{RangeFault}
use Rattle.station.specs.declared.stops.SendStall.{SendStall}
use Rattle.station.specs.declared.stops.RecvStall.{RecvStall}
use Rattle.station.specs.declared.stops.RecvStop.{RecvStop}
use Rattle.station.specs.declared.stops.RecvStop.TheVariants as recv_stop
use Rattle.station.specs.declared.stops.BarStall.{BarStall}
use Rattle.station.specs.declared.stops.CollStall.{CollStall}
use Rattle.station.specs.declared.stops.CollStop.{CollStop}
use Rattle.station.specs.declared.stops.CollStop.TheVariants as coll_stop
use Rattle.station.specs.declared.stops.GroupStall.{GroupStall}
use Rattle.station.specs.declared.stops.GroupStop.{GroupStop}
use Rattle.station.specs.declared.stops.GroupStop.TheVariants as group_stop
use Rattle.station.specs.declared.stops.Stop.{Stop}
use Rattle.station.specs.declared.stops.Stop.TheVariants as stop

-- a flag by its core, line, word and bit, or a core's register
abbrev pub spot_text : Spot → List ℕ
spot_text (spot.Flag place bit) = codes "flag of core " ++ decimal place.core ++ codes ", line " ++ decimal place.line
    ++ codes ", word " ++ decimal place.word ++ codes ", bit " ++ decimal bit
spot_text (spot.Register core) = codes "register of core " ++ decimal core

-- a head: its kind, its communicator and its length
abbrev pub head_text : MessageHead → List ℕ
head_text head = kind_text (kind_at head.kind) ++ codes " " ++ decimal head.comm ++ codes " " ++ decimal head.len

-- a call gave up after `polls` tries at this spot
abbrev pub stall_text : List ℕ → Spot → ℕ → List ℕ
stall_text call at polls = call ++ codes " stalled after " ++ decimal polls ++ codes " tries at the " ++ spot_text at

-- a call met a message that is none of it
abbrev pub met_text : List ℕ → MessageHead → List ℕ
met_text call sent = call ++ codes " met another message: sent " ++ head_text sent

-- a call met a message of another head than it asked for
abbrev pub met_not_asked_text : List ℕ → MessageHead → MessageHead → List ℕ
met_not_asked_text call sent asked = met_text call sent ++ codes ", asked " ++ head_text asked

-- a send or a post that gave up
abbrev pub send_stall_text : SendStall → List ℕ
send_stall_text stall = stall_text (codes "a send") stall.spot stall.polls

-- a receive that gave up
abbrev pub recv_stall_text : RecvStall → List ℕ
recv_stall_text stall = stall_text (codes "a receive") stall.spot stall.polls

-- a receive that stopped
abbrev pub recv_stop_text : RecvStop → List ℕ
recv_stop_text (recv_stop.Stalled stall) = recv_stall_text stall
recv_stop_text (recv_stop.Mismatch sent asked) = met_not_asked_text (codes "a receive") sent asked

-- a barrier that gave up
abbrev pub bar_stall_text : BarStall → List ℕ
bar_stall_text stall = stall_text (codes "a barrier") stall.spot stall.polls

-- a gather, a scatter, an allgather or an alltoall that gave up
abbrev pub coll_stall_text : CollStall → List ℕ
coll_stall_text stall = stall_text (codes "a collective call") stall.spot stall.polls

-- a gather, a scatter, an allgather or an alltoall that stopped
abbrev pub coll_stop_text : CollStop → List ℕ
coll_stop_text (coll_stop.Stalled stall) = coll_stall_text stall
coll_stop_text (coll_stop.Mismatch op sent) = met_text (codes "a collective call") sent

-- a broadcast or a reduction that gave up
abbrev pub group_stall_text : GroupStall → List ℕ
group_stall_text stall = stall_text (codes "a collective call") stall.spot stall.polls

-- a broadcast or a reduction that stopped
abbrev pub group_stop_text : GroupStop → List ℕ
group_stop_text (group_stop.Stalled stall) = group_stall_text stall
group_stop_text (group_stop.Mismatch op sent asked) = met_not_asked_text (codes "a collective call") sent asked

-- a put or a get of more lines than the buffer has
abbrev pub range_text : RangeFault → List ℕ
range_text fault = codes "a put or a get asked " ++ decimal fault.asked ++ codes " lines of a buffer of " ++ decimal fault.len

-- a buffer or a flag that the heap refused
abbrev pub malloc_text : MallocFault → List ℕ
malloc_text Empty = codes "a malloc asked nothing"
malloc_text (Full asked longest) = codes "a malloc asked " ++ decimal asked ++ codes " lines, longest run " ++ decimal longest

-- a call that stopped, whichever it was
abbrev pub call_stop_text : Stop → List ℕ
call_stop_text (stop.Send stall) = send_stall_text stall
call_stop_text (stop.Recv why) = recv_stop_text why
call_stop_text (stop.Barrier stall) = bar_stall_text stall
call_stop_text (stop.Collective why) = coll_stop_text why
call_stop_text (stop.Group why) = group_stop_text why
call_stop_text (stop.Flag stall) = stall_text (codes "a flag") stall.spot stall.polls
call_stop_text (stop.Range fault) = range_text fault
call_stop_text (stop.Malloc fault) = malloc_text fault
