use Rattle.scc_proto.specs.Stages.{blank}
use Rattle.scc_proto.specs.Words.{zeros}
use Rattle.trace_judge.proofs.LegalLists.{chip_told, legal_from, legal_told}
use Rattle.trace_judge.proofs.laws.legal_law.Goals as goal

pub returns-clause-law : goal.returns-clause-law
returns-clause-law c = λ s run are. (λ ok. legal_told 0 s zeros (λ r. blank) run are ok, λ legal. legal_from 0 s zeros (λ r. blank) run legal.0 legal.1)

pub returns-clause-chip : goal.returns-clause-chip
returns-clause-chip c = λ s run j is. chip_told 0 s zeros (λ r. blank) run j is
