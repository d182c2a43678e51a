use Rattle.scc_proto.proofs.Legality.LegalLaws.{legal_from_end, end_of_legal}
use Rattle.scc_proto.proofs.laws.verdict_law.Goals as goal

pub returns : goal.returns
returns c = record {
  law = λ nue keys n calls slots e run. (end_of_legal nue keys n calls slots e run, legal_from_end nue keys n calls slots e run);
}
