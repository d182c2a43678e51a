use Rattle.std.proofs.Common.{◌≡◌, take}
use Rattle.mesh_load.specs.Mesh.{link_at}
use Rattle.mesh_load.specs.Tables.{sum_where, in_row}
use Rattle.mesh_load.proofs.tables.along_rows.Given as goal

abbrev pub invariant-loop-cell : goal.invariant-loop-cell
invariant-loop-cell l = l.sum ≡ sum_where (in_row (link_at l.x l.y l.dir)) (take l.cell l.rows)
