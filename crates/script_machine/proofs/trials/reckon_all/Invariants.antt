use Rattle.std.proofs.Common.{◌≡◌, length, slice_get, None}
use Rattle.script_machine.specs.Passes.{HoldsBefore}
use Rattle.script_machine.specs.Program.{prims_in}
use Rattle.script_machine.specs.Rooms.{IsWider}
use Rattle.script_machine.specs.Walk.{prim_of}
use Rattle.script_machine.proofs.trials.reckon_all.Given as goal

abbrev pub invariant-loop-course : goal.invariant-loop-course
invariant-loop-course l = record {
  holds : HoldsBefore l.reckoning.most l.initial.reckoning.lengths (prims_in l.initial.course.left) l.reckoning.lengths (prims_in l.course.left);
  wider : IsWider l.initial.reckoning.most l.reckoning.most;
  stands : prim_of (slice_get l.course.left 0) ≡ None;
  same : l.course ≡ record l.initial.course { left = l.course.left };
}

abbrev pub decreases-loop-course : goal.decreases-loop-course
decreases-loop-course l = length l.course.left
