use Rattle.scc_proto.specs.Words.{SignalFlags, IdleWord}
use Rattle.scc_proto.proofs.Words.WordFacts.{word_by_role}
use Rattle.scc_proto.proofs.laws.idle_law.Goals as goal

pub returns-clause-word : goal.returns-clause-word
returns-clause-word c = λ s memory records place agrees is role. word_by_role s memory records place IdleWord agrees is role

pub returns-clause-flags : goal.returns-clause-flags
returns-clause-flags c = λ s memory records place signal owner b agrees is role other. word_by_role s memory records place (SignalFlags signal owner) agrees is role b other
