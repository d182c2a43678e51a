use Rattle.std.proofs.Common.{arith}
use Rattle.mesh_load.specs.Mesh.{link_at}
use Rattle.mesh_load.specs.Tables.{in_column}
use Rattle.mesh_load.proofs.TableLaws.{left_out, sum_within, taken_in}
use Rattle.mesh_load.proofs.tables.along_columns.Goals as goal
use Rattle.mesh_load.proofs.tables.along_columns.Goals.{then-is_in_column, else-is_in_column}

pub overflow_add-sum : goal.overflow_add-sum
overflow_add-sum c = omega (arith, sum_within (in_column (link_at c.args.x c.args.y c.args.dir)) c.args.columns.now c.loop-cell.cell c.loop-cell.sum c.loop-cell.invariant, c.requires.few)

pub loop-cell-preserved : goal.loop-cell-preserved
loop-cell-preserved c =
    elim c.if-is_in_column.branch [
      | then-is_in_column w ↦
          taken_in (in_column (link_at c.args.x c.args.y c.args.dir)) c.args.columns.now c.loop-cell.cell c.is_in_column.result c.loop-cell.sum c.if-is_in_column.sum (omega arith) w.if-is_in_column.true c.is_in_column.ensures w.sum-is c.loop-cell.invariant
      | else-is_in_column w ↦
          left_out (in_column (link_at c.args.x c.args.y c.args.dir)) c.args.columns.now c.loop-cell.cell c.is_in_column.result c.loop-cell.sum c.if-is_in_column.sum (omega arith) w.if-is_in_column.false c.is_in_column.ensures w.sum-is c.loop-cell.invariant
    ]

pub returns-clause-few : goal.returns-clause-few
returns-clause-few c = omega (arith, sum_within (in_column (link_at c.args.x c.args.y c.args.dir)) c.args.columns.now c.loop-cell.cell c.loop-cell.sum c.loop-cell.invariant, c.requires.few)
