use Rattle.std.proofs.Common.{rules}
use Rattle.write_combine.proofs.combiner.Combiner.flush.Goals as goal

-- Names the goal, so that the prover rejects a wrong body at once, without a search.
pub returns-clause-out : goal.returns-clause-out
returns-clause-out c = search rules

pub returns-clause-held : goal.returns-clause-held
returns-clause-held c = search rules
