use Rattle.send_recv.specs.Ranks.{receiving}
use Rattle.send_recv.specs.Receiving.{RecvStands}
use Rattle.send_recv.proofs.Loops.BatchLoop.{Read, to_read}
use Rattle.send_recv.proofs.receives.RecvOp.read_lines.Given as goal

abbrev pub invariant-lines : goal.invariant-lines
invariant-lines g l =
    RecvStands (g.P.Port.sight l.port) l.core l.self l.bytes
    × Read (receiving (g.P.Port.sight l.fn.port) l.fn.core l.fn.self l.fn.bytes) (receiving (g.P.Port.sight l.port) l.core l.self l.bytes)

abbrev pub decreases-lines : goal.decreases-lines
decreases-lines g l = to_read l.self.stage
