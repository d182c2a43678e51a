use Rattle.std.proofs.Common.{rules}
use Rattle.put_get.proofs.cores.Core.word_read.Goals as goal

-- Names the goal, so that the prover rejects a wrong body at once, without a search.
pub returns-clause-reads : goal.returns-clause-reads
returns-clause-reads c = search rules
