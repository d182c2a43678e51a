use Rattle.trace_script.proofs.StatusLaws.{alone_refused, ends_apart}
use Rattle.trace_script.proofs.laws.status_law.Goals as goal

pub returns-clause-apart : goal.returns-clause-apart
returns-clause-apart c = ends_apart

pub returns-clause-alone : goal.returns-clause-alone
returns-clause-alone c = alone_refused
