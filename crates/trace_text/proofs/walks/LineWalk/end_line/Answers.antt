use Rattle.std.proofs.Common.{◌+◌, Option, Some, option_map, Result, sym, ◌∙◌, ap, subst, arith}
use Rattle.trace_text.specs.Grammar.{TraceReading}
use Rattle.trace_text.specs.Progress.{progress_of, walk_said}
use Rattle.trace_text.specs.Views.{rank_event}
use Rattle.trace_text.specs.Walks.{GainsEvent}
use Rattle.trace_text.specs.declared.faults.TraceFault.{TraceFault}
use Rattle.trace_text.proofs.ProgressLemmas.{said_some}
use Rattle.trace_text.proofs.walks.LineWalk.end_line.Goals as goal

pub returns-clause-said : goal.returns-clause-said
returns-clause-said c =
    let w = c.say.new.self in
    said_some (w.lines + 1) w.fault (progress_of w.reader) (λ none. omega (arith, none)) ∙ ap (λ (r : Result TraceReading TraceFault). Some r) (sym c.in_ok-made.ensures.said)

pub returns-clause-event : goal.returns-clause-event
returns-clause-event c =
    let w = c.say.new.self in
    subst (λ (o : Option (Result TraceReading TraceFault)). GainsEvent (walk_said c.args.self.now) o (option_map rank_event c.in_ok-made.made))
    (sym (said_some (w.lines + 1) w.fault (progress_of w.reader) (λ none. omega (arith, none)))) c.in_ok-made.ensures.event
