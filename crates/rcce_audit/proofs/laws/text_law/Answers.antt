use Rattle.rcce_audit.proofs.ReadingLemmas.{text_back}
use Rattle.rcce_audit.proofs.WritingLemmas.{text_told}
use Rattle.rcce_audit.proofs.laws.text_law.Goals as goal

pub returns-clause-read : goal.returns-clause-read
returns-clause-read c = λ bytes log said. (text_back bytes log said).0

pub returns-clause-written : goal.returns-clause-written
returns-clause-written c = λ log is. text_told log is

pub returns-clause-valid : goal.returns-clause-valid
returns-clause-valid c = λ bytes log said. (text_back bytes log said).1
