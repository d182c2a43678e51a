use Rattle.std.proofs.Common.{refl}
use Rattle.send_recv.proofs.Loops.RecvLoop.{underway_none, underway_moved, underway_waited, underway_ends, underway_stalls, underway_differs, left_falls}
use Rattle.sync_flags.proofs.LoopLemmas.{measure_falls}
use Rattle.send_recv.proofs.calls.recv.Goals as goal

pub turns-init : goal.turns-init
turns-init g c = (underway_none c.requires.stands, c.requires.some)

pub returns-in-Done : goal.returns-in-Done
returns-in-Done g c = record { ends = underway_ends c.args.polls c.requires.some c.turns.invariant.0 c.in-Done.ensures.stands c.in-Done.ensures.turned }

pub returns-in-Mismatch : goal.returns-in-Mismatch
returns-in-Mismatch g c = record { ends = underway_differs c.args.polls c.requires.some c.turns.invariant.0 c.requires.stands.long c.in-Mismatch.ensures.stands c.in-Mismatch.ensures.turned _ c.head-asked.ensures.gives }

pub turns-smaller-in-Moved : goal.turns-smaller-in-Moved
turns-smaller-in-Moved g c = measure_falls _ _ _ _ (left_falls c.turns.invariant.0 c.in-Moved.ensures.turned) c.turns.invariant.1

pub turns-preserved-in-Moved : goal.turns-preserved-in-Moved
turns-preserved-in-Moved g c = (underway_moved c.turns.invariant.0 c.in-Moved.ensures.stands c.in-Moved.ensures.turned, c.requires.some)

pub returns-then-failed-polls : goal.returns-then-failed-polls
returns-then-failed-polls g c = record { ends = (refl, underway_stalls c.turns.invariant.0 c.in-Waiting.ensures.stands c.in-Waiting.ensures.turned c.args.polls c.if-failed-polls.true) }

pub turns-preserved : goal.turns-preserved
turns-preserved g c = (underway_waited c.turns.invariant.0 c.in-Waiting.ensures.stands c.in-Waiting.ensures.turned, c.if-failed-polls.false)
