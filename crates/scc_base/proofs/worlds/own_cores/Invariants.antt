use Rattle.std.proofs.Common.{◌≡◌, ℕ, ◌<◌, length, slice_index}
use Rattle.scc_base.proofs.worlds.own_cores.Given as goal

abbrev pub invariant-loop-number : goal.invariant-loop-number
invariant-loop-number l = record {
  all : length l.cores ≡ 48;
  each : (k : ℕ) → k < l.number → slice_index l.cores k ≡ k;
}
