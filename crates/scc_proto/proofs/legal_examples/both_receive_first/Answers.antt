use Rattle.scc_proto.proofs.Legality.LegalExamples as examples
use Rattle.scc_proto.proofs.legal_examples.both_receive_first.Goals as goal

pub returns : goal.returns
returns c = record { refused = examples.both_receive_first }
