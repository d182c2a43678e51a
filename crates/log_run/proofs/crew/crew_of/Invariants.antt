use Rattle.std.proofs.Common.{◌≡◌, ℕ, ◌<◌, length, slice_index_or}
use Rattle.rcce_ue.specs.Ues.{UeView}
use Rattle.log_run.specs.declared.loggers.Logger.{Logger}
use Rattle.log_run.specs.LogRuns.{IsFreshLogger}
use Rattle.log_run.proofs.crew.crew_of.Given as goal

abbrev pub invariant-loop-number : goal.invariant-loop-number
invariant-loop-number l =
    (length l.crew.items ≡ l.number)
    × ((rank : ℕ) (d : Logger UeView) → rank < l.number → IsFreshLogger l.scripts l.setup rank (slice_index_or l.crew.items rank d))
