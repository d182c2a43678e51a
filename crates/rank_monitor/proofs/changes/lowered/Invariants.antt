use Rattle.std.proofs.Common.{◌≡◌, ◌≤◌}
use Rattle.scc_proto.specs.Records.{lowered_below}
use Rattle.rank_monitor.proofs.changes.lowered.Given as goal

-- no rank from `left` on has its bit lowered
abbrev pub invariant-loop-left : goal.invariant-loop-left
invariant-loop-left l = record {
  rest : lowered_below l.me l.old l.new l.nue ≡ lowered_below l.me l.old l.new l.left;
  within : l.left ≤ l.nue;
}

abbrev pub decreases-loop-left : goal.decreases-loop-left
decreases-loop-left l = l.left
