use Rattle.std.proofs.Common.{◌≡◌, ◌≤◌}
use Rattle.scc_proto.specs.Words.{rank_below, rank_on}
use Rattle.rank_monitor.proofs.uses.rank_on.Given as goal

-- no rank from `left` on is on the core
abbrev pub invariant-loop-left : goal.invariant-loop-left
invariant-loop-left l = record {
  rest : rank_on l.setup l.core ≡ rank_below l.left l.setup.hosts l.core;
  within : l.left ≤ l.setup.nue;
}

abbrev pub decreases-loop-left : goal.decreases-loop-left
decreases-loop-left l = l.left
