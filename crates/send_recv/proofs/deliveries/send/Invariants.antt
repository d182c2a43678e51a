use Rattle.std.proofs.Common.{◌-◌, ◌+◌, ◌*◌, ◌<◌}
use Rattle.scc_proto.specs.Records.{chunk_of}
use Rattle.send_recv.specs.Sending.{send_left}
use Rattle.send_recv.proofs.Loops.SendLoop.{SendWay}
use Rattle.send_recv.proofs.deliveries.send.Given as goal

abbrev pub invariant-turns : goal.invariant-turns
invariant-turns g l =
    SendWay (g.P.Port.sight l.fn.port) l.fn.op l.bytes l.failed (g.P.Port.sight l.port) l.core l.op l.slot
    × (l.failed < l.polls)

abbrev pub decreases-turns : goal.decreases-turns
decreases-turns g l = send_left (g.P.Port.sight l.fn.port).seat.setup.layout (chunk_of (g.P.Port.sight l.fn.port).seat.setup) l.op l.slot * l.polls + (l.polls - l.failed)
