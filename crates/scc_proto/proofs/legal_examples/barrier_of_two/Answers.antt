use Rattle.scc_proto.proofs.Legality.LegalExamples as examples
use Rattle.scc_proto.proofs.legal_examples.barrier_of_two.Goals as goal

pub returns : goal.returns
returns c = record { refused = examples.barrier_of_two }
