use Rattle.std.proofs.Common.{◌≡◌, true, length}
use Rattle.script_machine.specs.Passes.{IsBatch, KeepsRegisters}
use Rattle.script_machine.specs.Rooms.{IsWider}
use Rattle.script_machine.proofs.trials.reckon_prims.Given as goal

abbrev pub invariant-loop-prim : goal.invariant-loop-prim
invariant-loop-prim l = record {
  batch : IsBatch l.reckoning.most l.initial.reckoning.lengths l.reckoning.lengths l.initial.course.left l.course.left;
  wider : IsWider l.initial.reckoning.most l.reckoning.most;
  kept : l.kept ≡ true → KeepsRegisters l.initial.reckoning.lengths l.reckoning.lengths;
  same : l.course ≡ record l.initial.course { left = l.course.left };
}

abbrev pub decreases-loop-prim : goal.decreases-loop-prim
decreases-loop-prim l = length l.course.left
