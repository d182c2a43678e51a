use Rattle.std.proofs.Common.{◌≡◌, length, []}
use Rattle.put_get.specs.Cores.{MadeSteps}
use Rattle.put_get.proofs.TransferLemmas.{Reading}
use Rattle.put_get.proofs.cores.Core.get.Given as goal

abbrev pub invariant-lines : goal.invariant-lines
invariant-lines g l =
    Reading (g.P.Port.sight l.fn.port) (record l.fn.self { lines = [] }) l.core l.at.first l.dst l.i (g.P.Port.sight l.port) l.self
    × MadeSteps g.P.Port.stepped (g.P.Port.sight l.fn.port) (g.P.Port.sight l.port)
    × (l.i-end ≡ length l.dst)
