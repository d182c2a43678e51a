use Rattle.scc_proto.proofs.Legality.LegalLaws.{legal_grown}
use Rattle.scc_proto.proofs.laws.growth_law.Goals as goal

pub returns : goal.returns
returns c = record { law = legal_grown }
