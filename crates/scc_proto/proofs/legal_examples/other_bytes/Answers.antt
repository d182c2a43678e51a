use Rattle.scc_proto.proofs.Legality.LegalExamples as examples
use Rattle.scc_proto.proofs.legal_examples.other_bytes.Goals as goal

pub returns : goal.returns
returns c = record { refused = examples.other_bytes }
