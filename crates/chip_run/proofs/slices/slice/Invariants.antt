use Rattle.std.proofs.Common.{◌≡◌, ◌⊎◌, List}
use Rattle.scc_base.specs.declared.events.Turn.{Turn}
use Rattle.chip_run.specs.Away.{SomeTurns, slice_left}
use Rattle.chip_run.specs.Marks.{Yields}
use Rattle.chip_run.proofs.SliceLaws.{SliceSoFar}
use Rattle.chip_run.proofs.slices.slice.Given as goal

abbrev pub invariant-loop-failed : goal.invariant-loop-failed
invariant-loop-failed g l = record {
  ties : g.W.Worker.behaviour.tied l.worker (g.P.Port.sight l.port).seat.setup (g.P.Port.sight l.port).seat.rank (g.P.Port.sight l.port).events;
  answers : List Turn;
  turns : SomeTurns g.W.Worker.behaviour (g.P.Port.stepped (g.P.Port.sight l.fn.port).seat) answers l.fn.worker (g.P.Port.sight l.fn.port) l.worker (g.P.Port.sight l.port);
  so_far : SliceSoFar answers l.failed;
  gave : (l.failed ≡ 0) ⊎ Yields g.M.Marks.shown l.fn.roll.asked l.fn.roll.spin_limit l.failed;
}

abbrev pub decreases-loop-failed : goal.decreases-loop-failed
decreases-loop-failed g l = slice_left 1000 (g.W.Worker.behaviour.seen (g.P.Port.sight l.fn.port).seat.setup (g.P.Port.sight l.fn.port).seat.rank l.worker).left l.failed
