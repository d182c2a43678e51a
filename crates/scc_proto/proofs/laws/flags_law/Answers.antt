use Rattle.scc_proto.proofs.Words.FlagsTold.{flags_told, registers_told}
use Rattle.scc_proto.proofs.laws.flags_law.Goals as goal

pub returns-clause-flags : goal.returns-clause-flags
returns-clause-flags c = λ s one other records a b. flags_told s one other records a b

pub returns-clause-registers : goal.returns-clause-registers
returns-clause-registers c = λ s one other records a b. registers_told s one other records a b
