use Rattle.send_recv.specs.Ranks.{sending}
use Rattle.send_recv.specs.Sending.{SendStands}
use Rattle.send_recv.proofs.Loops.BatchLoop.{Wrote, to_write}
use Rattle.send_recv.proofs.sends.SendOp.write_lines.Given as goal

abbrev pub invariant-lines : goal.invariant-lines
invariant-lines g l =
    SendStands (g.P.Port.sight l.port) l.core l.self l.slot l.bytes
    × Wrote (sending (g.P.Port.sight l.fn.port) l.fn.core l.fn.self l.slot l.bytes) (g.P.Port.sight l.port) l.core l.self l.slot

abbrev pub decreases-lines : goal.decreases-lines
decreases-lines g l = to_write l.self.stage
