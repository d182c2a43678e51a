use Rattle.std.proofs.Common.{◌≡◌, length}
use Rattle.script_machine.specs.Program.{prims_in}
use Rattle.script_machine.proofs.walk.pass_ends.Given as goal

abbrev pub invariant-loop-course : goal.invariant-loop-course
invariant-loop-course l = record {
  same : prims_in l.course.left ≡ prims_in l.initial.course.left;
  script : l.course.script ≡ l.initial.course.script;
  setup : l.course.setup ≡ l.initial.course.setup;
  rank : l.course.rank ≡ l.initial.course.rank;
}

abbrev pub decreases-loop-course : goal.decreases-loop-course
decreases-loop-course l = length l.course.left
