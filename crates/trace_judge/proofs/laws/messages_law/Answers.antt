use Rattle.scc_proto.proofs.Agreement.AgreementLaw.{agreement_of_lists}
use Rattle.scc_proto.proofs.Messages.MessageLaw.{pair_messages}
use Rattle.scc_proto.specs.Histories.{records_of}
use Rattle.scc_proto.specs.Stages.{blank}
use Rattle.scc_proto.specs.Words.{zeros}
use Rattle.trace_judge.proofs.LegalLists.{legal_told}
use Rattle.trace_judge.proofs.laws.messages_law.Goals as goal

pub returns-clause-agrees : goal.returns-clause-agrees
returns-clause-agrees c = λ s run setup are ok.
    let legal = legal_told 0 s zeros (λ r. blank) run are ok in
    agreement_of_lists s setup run legal.0 legal.1

pub returns-clause-messages : goal.returns-clause-messages
returns-clause-messages c = λ s run from to setup are ok below.
    let legal = legal_told 0 s zeros (λ r. blank) run are ok in
    let agrees = agreement_of_lists s setup run legal.0 legal.1 in
    pair_messages s from to (records_of s run) agrees.calls (agrees.singles.0 from below)
