use Rattle.std.proofs.Common.{codes, rules}
use Rattle.outcomes.proofs.ReadingLemmas.{lacks_memory}
use Rattle.trace_program.specs.Jobs.{job_view}
use Rattle.trace_program.specs.Program.{trace_file_plan}
use Rattle.trace_program.proofs.launcher.run_file.Goals as goal

pub returns-in-Err : goal.returns-in-Err
returns-in-Err g c = lacks_memory (codes "rccetrace") (trace_file_plan (job_view c.args.job)) _

-- Names the goal, so that the prover rejects a wrong body at once, without a search.
pub hear_file-requires-clause-hears : goal.hear_file-requires-clause-hears
hear_file-requires-clause-hears g c = search rules
