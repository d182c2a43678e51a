use Rattle.std.proofs.Common.{subst, sym}
use Rattle.trace_text.specs.Grammar.{event_added}
use Rattle.trace_text.specs.Views.{rank_event}
use Rattle.trace_program.specs.Hearings.{HoldsStage}
use Rattle.trace_program.specs.declared.hearing.Stage.{Stage}
use Rattle.trace_program.proofs.HearingLemmas.{due_first, holds_later, holds_refused, holds_taken, next_first, next_later}
use Rattle.trace_program.proofs.hearing.Hearing.judge.Goals as goal

pub take-requires-clause-next : goal.take-requires-clause-next
take-requires-clause-next c =
    let (asked, r, due) = c.requires.due in
    let h = c.args.self.now in
    let made = c.args.made.now in
    let tried = c.in_ok-trial-in-Waiting.ensures.tried r (c.setup.ensures.gives (event_added r (rank_event made)) due.come) (due_first asked h r made due c.in-Waiting.is).0 in
    (asked, r, next_first asked c.in_ok-trial-in-Waiting.trial h r made due c.in-Waiting.is tried c.in_ok-trial-in-Waiting.ensures.number)

pub returns-in-Some-clause-holds : goal.returns-in-Some-clause-holds
returns-in-Some-clause-holds c = λ asked r due.
    let h = c.args.self.now in
    let made = c.args.made.now in
    let tried = c.in_ok-trial-in-Waiting.ensures.tried r (c.setup.ensures.gives (event_added r (rank_event made)) due.come) (due_first asked h r made due c.in-Waiting.is).0 in
    let next = next_first asked c.in_ok-trial-in-Waiting.trial h r made due c.in-Waiting.is tried c.in_ok-trial-in-Waiting.ensures.number in
    holds_refused asked c.take.new.self c.take.new.finished c.take.new.finished r (rank_event made) c.in-Some.refused _ c.in-Some.is (c.in_ok-refused-in-Waiting.ensures.tried asked r next)

pub returns-in-None-clause-holds : goal.returns-in-None-clause-holds
returns-in-None-clause-holds c = λ asked r due.
    let h = c.args.self.now in
    let made = c.args.made.now in
    let tried = c.in_ok-trial-in-Waiting.ensures.tried r (c.setup.ensures.gives (event_added r (rank_event made)) due.come) (due_first asked h r made due c.in-Waiting.is).0 in
    let next = next_first asked c.in_ok-trial-in-Waiting.trial h r made due c.in-Waiting.is tried c.in_ok-trial-in-Waiting.ensures.number in
    holds_taken asked c.take.new.self c.take.new.finished r (rank_event made) _ c.in-None.is (c.in_ok-refused-in-Waiting.ensures.tried asked r next)

pub returns-in-Some-2-clause-holds : goal.returns-in-Some-2-clause-holds
returns-in-Some-2-clause-holds c = λ asked r due.
    let next = next_later asked c.in-Judging.trial c.args.self.now r c.args.made.now due c.in-Judging.is in
    holds_refused asked c.take-in-Judging.new.self c.take-in-Judging.new.finished c.take-in-Judging.new.finished r (rank_event c.args.made.now) c.in-Some-2.refused _ c.in-Some-2.is
    (c.in_ok-refused-in-Judging.ensures.tried asked r next)

pub returns-in_default-clause-holds : goal.returns-in_default-clause-holds
returns-in_default-clause-holds c = λ asked r due.
    let next = next_later asked c.in-Judging.trial c.args.self.now r c.args.made.now due c.in-Judging.is in
    holds_taken asked c.take-in-Judging.new.self c.take-in-Judging.new.finished r (rank_event c.args.made.now) _ c.in_default.is (c.in_ok-refused-in-Judging.ensures.tried asked r next)

pub returns-in-Refused-clause-holds : goal.returns-in-Refused-clause-holds
returns-in-Refused-clause-holds c = λ asked r due.
    let h = c.args.self.now in
    subst (λ (s : Stage). HoldsStage asked s h.finished (event_added r (rank_event c.args.made.now))) (sym c.in-Refused.is) (holds_later asked h h.finished r c.args.made.now c.in-Refused.field-0 due c.in-Refused.is)
