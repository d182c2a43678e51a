use Rattle.std.proofs.Common.{◌+◌, ◌≤◌, ◌∙◌, get_or, arith, refl, length-set}
use Rattle.mesh_load.specs.Tables.{column_cell, total}
use Rattle.mesh_load.proofs.TableLaws.{added, added_within, chosen-zeros}
use Rattle.mesh_load.proofs.tables.add_columns.Goals as goal

pub loop-pair-init : goal.loop-pair-init
loop-pair-init c = record { room = refl; so_far = λ test. chosen-zeros test 96 }

pub overflow_add-columns-in-loop-pair : goal.overflow_add-columns-in-loop-pair
overflow_add-columns-in-loop-pair c =
    let here : get_or c.loop-pair.columns (column_cell c.loop-pair.pair) 0 + get_or c.args.pairs.now c.loop-pair.pair 0 ≤ total c.args.pairs.now =
    added_within column_cell c.args.pairs.now c.loop-pair.columns c.loop-pair.pair c.loop-pair.invariant.so_far in
    omega (arith, here, c.requires.few)

pub loop-pair-preserved : goal.loop-pair-preserved
loop-pair-preserved c = record {
  room = length-set c.loop-pair.columns (column_cell c.loop-pair.pair) _ ∙ c.loop-pair.invariant.room;
  so_far = added column_cell c.args.pairs.now c.loop-pair.columns c.loop-pair.pair (omega arith) (omega (arith, c.loop-pair.invariant.room)) c.loop-pair.invariant.so_far;
}
