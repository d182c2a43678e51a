use Rattle.std.proofs.Common.{rules}
use Rattle.mesh_load.proofs.tables.is_in_row.Goals as goal

-- Names the goal, so that the prover rejects a wrong body at once, without a search.
pub returns-then-cell-x : goal.returns-then-cell-x
returns-then-cell-x c = search rules

pub returns-else-cell-x : goal.returns-else-cell-x
returns-else-cell-x c = search rules
