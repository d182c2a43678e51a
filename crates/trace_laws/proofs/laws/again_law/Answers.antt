use Rattle.trace_laws.proofs.JudgedLemmas.{judged_again, legal_again, records_again}
use Rattle.trace_laws.proofs.laws.again_law.Goals as goal

pub returns-clause-legal : goal.returns-clause-legal
returns-clause-legal c = legal_again

pub returns-clause-judged : goal.returns-clause-judged
returns-clause-judged c = judged_again

pub returns-clause-records : goal.returns-clause-records
returns-clause-records c = records_again
