use Rattle.barrier.proofs.CallLemmas.{underway_none, underway_moved, underway_waited, underway_ends, underway_stalls, left_falls}
use Rattle.sync_flags.proofs.LoopLemmas.{measure_falls}
use Rattle.barrier.proofs.barriers.barrier.Goals as goal

pub turns-init : goal.turns-init
turns-init g c = (underway_none c.requires.stands, c.requires.some)

pub returns-in-Done : goal.returns-in-Done
returns-in-Done g c = record { ends = underway_ends c.turns.invariant.0 c.in-Done.ensures.stands c.in-Done.ensures.turned }

pub turns-smaller-in-Moved : goal.turns-smaller-in-Moved
turns-smaller-in-Moved g c = measure_falls _ _ _ _ (left_falls c.turns.invariant.0 c.in-Moved.ensures.turned) c.turns.invariant.1

pub turns-preserved-in-Moved : goal.turns-preserved-in-Moved
turns-preserved-in-Moved g c = (underway_moved c.turns.invariant.0 c.in-Moved.ensures.stands c.in-Moved.ensures.turned, c.requires.some)

pub returns-then-failed-polls : goal.returns-then-failed-polls
returns-then-failed-polls g c = record { ends = underway_stalls c.turns.invariant.0 c.in-Waiting.ensures.stands c.in-Waiting.ensures.turned c.args.polls c.if-failed-polls.true }

pub turns-preserved : goal.turns-preserved
turns-preserved g c = (underway_waited c.turns.invariant.0 c.in-Waiting.ensures.stands c.in-Waiting.ensures.turned, c.if-failed-polls.false)
