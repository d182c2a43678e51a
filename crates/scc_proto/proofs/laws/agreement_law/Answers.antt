use Rattle.scc_proto.proofs.Agreement.StartLaw.{agrees_at_start}
use Rattle.scc_proto.proofs.Agreement.AgreementLaw.{agreement_kept, passed_grow, agreement_of_lists}
use Rattle.scc_proto.proofs.laws.agreement_law.Goals as goal

pub returns-clause-start : goal.returns-clause-start
returns-clause-start c = λ s. agrees_at_start s

pub returns-clause-event : goal.returns-clause-event
returns-clause-event c = λ s memory records me e setup agrees below is step may. agreement_kept s setup memory records me e agrees below is step may

pub returns-clause-grows : goal.returns-clause-grows
returns-clause-grows c = λ s memory records me e setup agrees below is step may. passed_grow s setup memory records me e agrees below is step may

pub returns-clause-lists : goal.returns-clause-lists
returns-clause-lists c = λ s run setup steps may. agreement_of_lists s setup run steps may
