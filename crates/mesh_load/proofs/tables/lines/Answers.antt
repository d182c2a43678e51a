use Rattle.std.proofs.Common.{arith}
use Rattle.mesh_load.proofs.tables.lines.Goals as goal

pub returns-clause-same : goal.returns-clause-same
returns-clause-same c = omega (arith, c.len.ensures.gives)
