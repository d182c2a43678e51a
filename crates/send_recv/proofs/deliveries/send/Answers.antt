use Rattle.std.proofs.Common.{refl}
use Rattle.sync_flags.proofs.LoopLemmas.{measure_falls}
use Rattle.send_recv.proofs.Loops.SendLoop.{way_none, way_moved, way_waited, way_ends, way_stalls, send_falls}
use Rattle.send_recv.proofs.deliveries.send.Goals as goal

pub turns-init : goal.turns-init
turns-init g c = (way_none c.requires.stands, c.requires.some)

pub returns-in-Done : goal.returns-in-Done
returns-in-Done g c = record { ends = way_ends c.turns.invariant.0 c.in-Done.ensures.stands c.in-Done.ensures.turned }

pub turns-smaller-in-Moved : goal.turns-smaller-in-Moved
turns-smaller-in-Moved g c = measure_falls _ _ _ _ (send_falls c.turns.invariant.0 c.in-Moved.ensures.turned) c.turns.invariant.1

pub turns-preserved-in-Moved : goal.turns-preserved-in-Moved
turns-preserved-in-Moved g c = (way_moved c.turns.invariant.0 c.in-Moved.ensures.stands c.in-Moved.ensures.turned, c.requires.some)

pub returns-then-failed-polls : goal.returns-then-failed-polls
returns-then-failed-polls g c = record { ends = (refl, way_stalls c.turns.invariant.0 c.in-Waiting.ensures.stands c.in-Waiting.ensures.turned c.args.polls c.if-failed-polls.true) }

pub turns-preserved : goal.turns-preserved
turns-preserved g c = (way_waited c.turns.invariant.0 c.in-Waiting.ensures.stands c.in-Waiting.ensures.turned, c.if-failed-polls.false)
