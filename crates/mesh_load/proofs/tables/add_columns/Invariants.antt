use Rattle.std.proofs.Common.{◌≡◌, ℕ, Bool, length, take}
use Rattle.mesh_load.specs.Tables.{sum_where, column_cell}
use Rattle.mesh_load.proofs.tables.add_columns.Given as goal

abbrev pub invariant-loop-pair : goal.invariant-loop-pair
invariant-loop-pair l = record {
  room : length l.columns ≡ 96;
  so_far : (test : ℕ → Bool) → sum_where test l.columns ≡ sum_where (λ pair. test (column_cell pair)) (take l.pair l.pairs);
}
