use Rattle.std.proofs.Common.{◌+◌, ◌-◌, ◌*◌, ◌<◌}
use Rattle.coll_more.specs.Ops.{taking_part}
use Rattle.coll_more.specs.Turns.{more_left}
use Rattle.station.proofs.CollLemmas.{Way}
use Rattle.station.proofs.collectives.take_turns.Given as goal

abbrev pub invariant-turns : goal.invariant-turns
invariant-turns g l =
    Way (taking_part (g.P.Port.sight l.fn.port) l.fn.core l.fn.op l.fn.slot l.src l.fn.dst) l.failed (taking_part (g.P.Port.sight l.port) l.core l.op l.slot l.src l.dst)
    × (l.failed < l.polls)

abbrev pub decreases-turns : goal.decreases-turns
decreases-turns g l = more_left (g.P.Port.sight l.fn.port).seat l.op l.slot * l.polls + (l.polls - l.failed)
