use Rattle.std.proofs.Common.{arith}
use Rattle.chip_run.proofs.CrewHands.{crew_free}
use Rattle.chip_run.proofs.ServedLaws.{some_worker}
use Rattle.trace_run.proofs.crews.turn_at.Goals as goal

pub turn_at_home-requires-clause-free : goal.turn_at_home-requires-clause-free
turn_at_home-requires-clause-free g c =
    crew_free g.W.Worker.behaviour g.met.W.Worker.hands c.args.chip.now c.args.crew.now (some_worker c.args.crew.now (omega (arith, c.requires.within))) c.of.result c.requires.crew
