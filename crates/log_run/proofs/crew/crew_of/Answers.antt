use Rattle.std.proofs.Common.{ap, arith, length, List, ℕ, subst, sym, slice_index_or}
use Rattle.std.proofs.lemmas.List.{length_push}
use Rattle.rcce_ue.specs.Ues.{UeView}
use Rattle.log_run.specs.declared.loggers.Logger.{Logger}
use Rattle.log_run.specs.LogRuns.{IsFreshLogger}
use Rattle.log_run.proofs.FreshLaws.{fresh_more}
use Rattle.log_run.proofs.crew.crew_of.Goals as goal

pub loop-number-preserved : goal.loop-number-preserved
loop-number-preserved c =
    let script = c.args.scripts.now in
    let setup = c.args.setup.now in
    let number = c.loop-number.number in
    let crew = c.loop-number.crew.items in
    let logger = c.in_ok-logger.logger in
    let (count, each) = c.loop-number.invariant in
    let start : IsFreshLogger script setup number logger = subst (λ (r : ℕ). IsFreshLogger script setup r logger) c.of.ensures.gives c.in_ok-logger.ensures in
    let longer = c.in_ok-push.ensures.items in (
      omega (arith, ap length longer, length_push crew logger, count),
      λ rank d low. subst (λ (l : List (Logger UeView)). IsFreshLogger script setup rank (slice_index_or l rank d)) (sym longer) (fresh_more script setup number crew logger count each start rank d low),
    )
