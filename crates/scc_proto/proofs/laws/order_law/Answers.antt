use Rattle.scc_proto.proofs.Legality.LegalLaws.{legal_in_order, legal_in_some_order}
use Rattle.scc_proto.proofs.laws.order_law.Goals as goal

pub returns : goal.returns
returns c = record { law = λ nue keys calls slots. (legal_in_some_order nue keys calls slots, legal_in_order nue keys calls slots) }
