use Rattle.rcce_run.specs.UeRuns.{AreFresh}
use Rattle.run_program.specs.Evictors.{HaveEvictors}
use Rattle.run_program.proofs.crew.crew_of.Given as goal

abbrev pub invariant-loop-number : goal.invariant-loop-number
invariant-loop-number l = AreFresh l.scripts l.setup l.number l.crew.items × HaveEvictors l.evict l.crew.items
