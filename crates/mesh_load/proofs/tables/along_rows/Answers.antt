use Rattle.std.proofs.Common.{arith}
use Rattle.mesh_load.specs.Mesh.{link_at}
use Rattle.mesh_load.specs.Tables.{in_row}
use Rattle.mesh_load.proofs.TableLaws.{left_out, sum_within, taken_in}
use Rattle.mesh_load.proofs.tables.along_rows.Goals as goal
use Rattle.mesh_load.proofs.tables.along_rows.Goals.{then-is_in_row, else-is_in_row}

pub overflow_add-sum : goal.overflow_add-sum
overflow_add-sum c = omega (arith, sum_within (in_row (link_at c.args.x c.args.y c.args.dir)) c.args.rows.now c.loop-cell.cell c.loop-cell.sum c.loop-cell.invariant, c.requires.few)

pub loop-cell-preserved : goal.loop-cell-preserved
loop-cell-preserved c =
    elim c.if-is_in_row.branch [
      | then-is_in_row w ↦
          taken_in (in_row (link_at c.args.x c.args.y c.args.dir)) c.args.rows.now c.loop-cell.cell c.is_in_row.result c.loop-cell.sum c.if-is_in_row.sum (omega arith) w.if-is_in_row.true c.is_in_row.ensures w.sum-is c.loop-cell.invariant
      | else-is_in_row w ↦
          left_out (in_row (link_at c.args.x c.args.y c.args.dir)) c.args.rows.now c.loop-cell.cell c.is_in_row.result c.loop-cell.sum c.if-is_in_row.sum (omega arith) w.if-is_in_row.false c.is_in_row.ensures w.sum-is c.loop-cell.invariant
    ]

pub returns-clause-few : goal.returns-clause-few
returns-clause-few c = omega (arith, sum_within (in_row (link_at c.args.x c.args.y c.args.dir)) c.args.rows.now c.loop-cell.cell c.loop-cell.sum c.loop-cell.invariant, c.requires.few)
