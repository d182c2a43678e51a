use Rattle.std.proofs.Common.{rules}
use Rattle.scc_ports.proofs.counting.CountingPortPort.take.Goals as goal

-- Names the goal, so that the prover rejects a wrong body at once, without a search.
pub returns-clause-did : goal.returns-clause-did
returns-clause-did c = search rules

pub returns-clause-step : goal.returns-clause-step
returns-clause-step c = search rules
