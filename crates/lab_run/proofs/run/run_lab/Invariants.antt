use Rattle.std.proofs.Common.{◌≡◌, drop}
use Rattle.lab_plain.specs.Meaning.{lab_start, steps_done}
use Rattle.lab_run.specs.Benches.{BenchStands, bench_stand}
use Rattle.lab_run.proofs.run.run_lab.Given as goal

-- the remaining steps, run from the state so far, have the result of all steps
abbrev pub invariant-loop-step : goal.invariant-loop-step
invariant-loop-step l = record {
  stands : BenchStands l.bench;
  same : steps_done (drop l.step-index l.steps) (bench_stand l.bench) ≡ steps_done l.steps lab_start;
}
