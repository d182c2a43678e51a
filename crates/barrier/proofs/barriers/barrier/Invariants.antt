use Rattle.std.proofs.Common.{◌-◌, ◌+◌, ◌*◌, ◌<◌}
use Rattle.barrier.specs.Stages.{bar_left}
use Rattle.barrier.proofs.CallLemmas.{Underway}
use Rattle.barrier.proofs.barriers.barrier.Given as goal

abbrev pub invariant-turns : goal.invariant-turns
invariant-turns g l =
    Underway (g.P.Port.sight l.fn.port) l.fn.op l.failed (g.P.Port.sight l.port) l.core l.op l.parity
    × (l.failed < l.polls)

abbrev pub decreases-turns : goal.decreases-turns
decreases-turns g l = bar_left (g.P.Port.sight l.fn.port).seat l.op * l.polls + (l.polls - l.failed)
