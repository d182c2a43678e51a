use Rattle.std.proofs.Common.{rules}
use Rattle.lab_plain.proofs.accesses.write_loads.Goals as goal

-- Names the goal, so that the prover rejects a wrong body at once, without a search.
pub returns : goal.returns
returns g c = search rules
