use Rattle.rcce_run.specs.UeRuns.{AreFresh}
use Rattle.run_rows.proofs.runs.crew_of.Given as goal

abbrev pub invariant-loop-number : goal.invariant-loop-number
invariant-loop-number g l = AreFresh l.scripts l.setup l.number l.crew.items
