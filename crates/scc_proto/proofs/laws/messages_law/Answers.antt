use Rattle.scc_proto.proofs.Legality.LegalMessages.{legal_messages}
use Rattle.scc_proto.proofs.laws.messages_law.Goals as goal

pub returns : goal.returns
returns c = record { law = legal_messages }
