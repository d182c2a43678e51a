use Rattle.std.proofs.Common.{◌≡◌, ◌<◌, ℕ, Some, true, slice_get, slice_index}
use Rattle.scc_base.specs.Calls.{Bar}
use Rattle.scc_base.specs.Setups.{setup_key}
use Rattle.scc_proto.specs.Legality.{in_group}
use Rattle.rcce_audit.specs.Logs.{calls_at_rank}
use Rattle.rcce_audit.specs.Views.{data_lists}
use Rattle.rcce_audit.proofs.steps.are_met.Given as goal

-- the members so far stand at the barrier
abbrev pub invariant-loop-other : goal.invariant-loop-other
invariant-loop-other l = (k : ℕ) → k < l.other → in_group l.setup.nue (setup_key l.setup) l.comm l.rank k ≡ true
    → slice_get (calls_at_rank (data_lists l.lists) k) (slice_index l.progress.next k) ≡ Some (Bar l.comm)
