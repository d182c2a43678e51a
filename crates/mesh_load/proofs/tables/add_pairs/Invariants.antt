use Rattle.std.proofs.Common.{◌≡◌, ◌<◌, ◌≤◌, ◌*◌, ℕ, Bool, cond, get_or, length, take, sum_by}
use Rattle.mesh_load.specs.Mesh.{lines_moved}
use Rattle.mesh_load.specs.Tables.{IsPlaced, sum_where, pair_place, total}
use Rattle.script_plain.specs.declared.matches.Match.{Match}
use Rattle.mesh_load.proofs.tables.add_pairs.Given as goal

abbrev pub invariant-loop-i : goal.invariant-loop-i
invariant-loop-i l = record {
  room : length l.pairs ≡ 576;
  so_far : (test : ℕ → Bool) → sum_where test l.pairs ≡ sum_by (λ one. cond (test (pair_place l.at one)) (lines_moved one.head.len) 0) (take l.i l.matches);
  placed : (j : ℕ) (d : Match) → j < l.i → IsPlaced l.at (get_or l.matches j d);
  few : total l.pairs ≤ l.i * 2049;
}
