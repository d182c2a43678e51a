use Rattle.std.proofs.Common.{refl}
use Rattle.rcce_audit.specs.Grammar.{no_calls}
use Rattle.trace_program.specs.Hearings.{HoldsLists}
use Rattle.trace_program.proofs.HearingLemmas.{lists_asked, lists_unasked, none_counts, start_held}
use Rattle.trace_program.proofs.finished.FinishedCalls.new.Goals as goal
use Rattle.trace_program.proofs.finished.FinishedCalls.new.Goals.{then-asked+in_ok-no_calls, else-asked}

pub returns : goal.returns
returns c =
    let lists : HoldsLists c.args.asked c.if-asked.lists no_calls = elim c.if-asked.branch [
      | then-asked+in_ok-no_calls w ↦ lists_asked c.args.asked c.if-asked.lists _ w.if-asked.true w.lists-is w.in_ok-no_calls.ensures.gives
      | else-asked w ↦ lists_unasked c.args.asked c.if-asked.lists w.if-asked.false w.lists-is
    ] in
    record { none = start_held c.args.asked _ (none_counts _ refl) lists }
