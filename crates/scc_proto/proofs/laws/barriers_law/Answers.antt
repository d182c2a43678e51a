use Rattle.scc_proto.proofs.Legality.LegalMessages.{legal_barriers}
use Rattle.scc_proto.proofs.laws.barriers_law.Goals as goal

pub returns : goal.returns
returns c = record { law = legal_barriers }
