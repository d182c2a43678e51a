use Rattle.scc_proto.proofs.Legality.LegalLaws.{legal_slots}
use Rattle.scc_proto.proofs.laws.slots_law.Goals as goal

pub returns : goal.returns
returns c = record { law = legal_slots }
