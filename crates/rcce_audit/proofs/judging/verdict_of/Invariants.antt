use Rattle.std.proofs.Common.{◌≡◌, ◌<◌, ℕ, None, slice_get, slice_index}
use Rattle.rcce_audit.specs.Logs.{calls_at_rank}
use Rattle.rcce_audit.specs.Views.{data_lists}
use Rattle.rcce_audit.proofs.judging.verdict_of.Given as goal

-- the ranks so far have no call left
abbrev pub invariant-loop-number : goal.invariant-loop-number
invariant-loop-number l = (k : ℕ) → k < l.number → slice_get (calls_at_rank (data_lists l.lists) k) (slice_index l.progress.next k) ≡ None
