use Rattle.std.proofs.Common.{rules}
use Rattle.trace_program.proofs.report.TraceVerdictReport.is_finished.Goals as goal

-- Names the goal, so that the prover rejects a wrong body at once, without a search.
pub returns-in-NotLegal : goal.returns-in-NotLegal
returns-in-NotLegal c = search rules
