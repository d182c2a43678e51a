use Rattle.scc_proto.proofs.Legality.LegalExamples as examples
use Rattle.scc_proto.proofs.legal_examples.posted.Goals as goal

pub returns : goal.returns
returns c = record { legal = examples.posted }
