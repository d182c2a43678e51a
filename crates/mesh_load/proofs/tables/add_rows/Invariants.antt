use Rattle.std.proofs.Common.{◌≡◌, ℕ, Bool, length, take}
use Rattle.mesh_load.specs.Tables.{sum_where, row_cell}
use Rattle.mesh_load.proofs.tables.add_rows.Given as goal

abbrev pub invariant-loop-pair : goal.invariant-loop-pair
invariant-loop-pair l = record {
  room : length l.rows ≡ 144;
  so_far : (test : ℕ → Bool) → sum_where test l.rows ≡ sum_where (λ pair. test (row_cell pair)) (take l.pair l.pairs);
}
