use Rattle.std.proofs.Common.{rules}
use Rattle.put_get.proofs.cores.Core.word_write.Goals as goal

-- Names the goal, so that the prover rejects a wrong body at once, without a search.
pub returns-clause-writes : goal.returns-clause-writes
returns-clause-writes c = search rules
