use Rattle.std.proofs.Common.{◌-◌, ◌+◌, ◌*◌, ◌<◌}
use Rattle.scc_proto.specs.Records.{chunk_of}
use Rattle.send_recv.specs.Receiving.{recv_left}
use Rattle.send_recv.proofs.Loops.RecvLoop.{Underway}
use Rattle.send_recv.proofs.calls.recv.Given as goal

abbrev pub invariant-turns : goal.invariant-turns
invariant-turns g l =
    Underway (g.P.Port.sight l.fn.port) l.fn.core l.fn.op l.fn.bytes l.failed (g.P.Port.sight l.port) l.core l.op l.bytes
    × (l.failed < l.polls)

abbrev pub decreases-turns : goal.decreases-turns
decreases-turns g l = recv_left (chunk_of (g.P.Port.sight l.fn.port).seat.setup) l.op * l.polls + (l.polls - l.failed)
