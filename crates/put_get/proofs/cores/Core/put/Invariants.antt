use Rattle.std.proofs.Common.{◌≡◌, length}
use Rattle.put_get.specs.Cores.{MadeSteps}
use Rattle.put_get.proofs.TransferLemmas.{Putting}
use Rattle.put_get.proofs.cores.Core.put.Given as goal

abbrev pub invariant-lines : goal.invariant-lines
invariant-lines g l =
    Putting (g.P.Port.sight l.fn.port) l.fn.self l.core l.at.first l.src l.i (g.P.Port.sight l.port) l.self
    × MadeSteps g.P.Port.stepped (g.P.Port.sight l.fn.port) (g.P.Port.sight l.port)
    × (l.i-end ≡ length l.src)
