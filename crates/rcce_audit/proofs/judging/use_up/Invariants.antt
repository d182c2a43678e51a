use Rattle.std.proofs.Common.{◌≡◌, ◌+◌, ◌*◌, ◌<◌, ℕ, false, cond}
use Rattle.rcce_audit.specs.Standings.{IsQuiet, Leads, Sleeps, count_left, standing_of}
use Rattle.rcce_audit.specs.Views.{data_lists}
use Rattle.rcce_audit.proofs.judging.use_up.Given as goal

-- steps were made, and where the last sweep made none nobody is awake
abbrev pub invariant-loop-moved : goal.invariant-loop-moved
invariant-loop-moved l = record {
  quiet : IsQuiet l.setup (data_lists l.lists) l.progress;
  leads : Leads l.setup (standing_of (data_lists l.lists) l.initial.progress) (standing_of (data_lists l.lists) l.progress);
  sleeps : l.moved ≡ false → (b : ℕ) → b < 48 → Sleeps l.progress b;
}

abbrev pub decreases-loop-moved : goal.decreases-loop-moved
decreases-loop-moved l = 2 * count_left (standing_of (data_lists l.lists) l.progress) 48 + cond l.moved 1 0
