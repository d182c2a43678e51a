use Rattle.std.proofs.Common.{◌≡◌, take}
use Rattle.mesh_load.specs.Mesh.{link_at}
use Rattle.mesh_load.specs.Tables.{sum_where, in_column}
use Rattle.mesh_load.proofs.tables.along_columns.Given as goal

abbrev pub invariant-loop-cell : goal.invariant-loop-cell
invariant-loop-cell l = l.sum ≡ sum_where (in_column (link_at l.x l.y l.dir)) (take l.cell l.columns)
