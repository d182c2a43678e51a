use Rattle.scc_proto.proofs.Words.WordFacts.{holder_is, nobody_holds, taken_is, free_is}
use Rattle.scc_proto.proofs.laws.registers_law.Goals as goal

pub returns-clause-taken : goal.returns-clause-taken
returns-clause-taken c = λ s memory records core agrees step. holder_is s.nue (memory.register core) core records (agrees.registers core).holder (taken_is (memory.register core) step)

pub returns-clause-free : goal.returns-clause-free
returns-clause-free c = λ s memory records core k agrees step below. nobody_holds s.nue (memory.register core) core records (agrees.registers core).holder (free_is (memory.register core) step) k below
