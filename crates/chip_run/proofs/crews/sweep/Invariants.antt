use Rattle.std.specs.List.{range_with_len}
use Rattle.chip_run.specs.Away.{behaviour_of_members}
use Rattle.chip_run.specs.Crews.{SweepStands}
use Rattle.chip_run.specs.Orders.{TurnsOf}
use Rattle.chip_run.proofs.crews.sweep.Given as goal

abbrev pub invariant-loop-at : goal.invariant-loop-at
invariant-loop-at g l = record {
  swept : SweepStands (behaviour_of_members g.W.Worker.behaviour) l.so_far l.at l.fn.chip l.fn.crew l.chip l.crew;
  order : TurnsOf (behaviour_of_members g.W.Worker.behaviour) (range_with_len 0 l.at) l.fn.chip l.fn.crew l.chip l.crew;
}
