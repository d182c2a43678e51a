use Rattle.std.proofs.Common.{◌≡◌, ℕ, ◌<◌, length}
use Rattle.std.specs.Prelude.{slice_get}
use Rattle.scc_proto.specs.Stages.{blank}
use Rattle.trace_judge.specs.Followed.{FollowsAt}
use Rattle.trace_judge.proofs.judge.new_monitors.Given as goal

-- the first ranks have their monitors
abbrev pub invariant-loop-number : goal.invariant-loop-number
invariant-loop-number l = record {
  count : length l.monitors.items ≡ l.number;
  follows : (r : ℕ) → r < l.number → FollowsAt l.setup r blank (slice_get l.monitors.items r);
}
