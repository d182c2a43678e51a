use Rattle.program_laws.proofs.StatusLemmas.{check_status, one_status}
use Rattle.program_laws.proofs.laws.status_law.Goals as goal

pub returns-clause-run : goal.returns-clause-run
returns-clause-run c = one_status

pub returns-clause-check : goal.returns-clause-check
returns-clause-check c = check_status
