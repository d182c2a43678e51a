use Rattle.std.proofs.Common.{rules}
use Rattle.scc_ports.proofs.counting.CountingPortPort.load.Goals as goal

-- Names the goal, so that the prover rejects a wrong body at once, without a search.
pub returns-clause-counts : goal.returns-clause-counts
returns-clause-counts c = search rules
