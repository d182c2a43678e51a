use Rattle.std.specs.Prelude.{◌≡◌, ◌≤◌, min, drop}
use Rattle.chip_run.specs.Marks.{least_failed}
use Rattle.chip_run.proofs.together.fewest_failed.Given as goal

abbrev pub invariant-loop-at : goal.invariant-loop-at
invariant-loop-at g l = record {
  within : l.least ≤ 1000;
  so_far : min l.least (least_failed (drop l.at l.fn.members)) ≡ least_failed l.fn.members;
}
