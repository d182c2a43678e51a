use Rattle.std.proofs.Common.{Option, option_map, refl, subst}
use Rattle.trace_text.specs.Views.{rank_event}
use Rattle.trace_text.specs.Walks.{GainsEvent, text_reading}
use Rattle.trace_text.specs.declared.traces.TraceEvent.{TraceEvent}
use Rattle.trace_program.proofs.HearingLemmas.{hears_byte}
use Rattle.trace_program.proofs.hearing.Hearing.push.Goals as goal

pub returns-in_default-clause-hears : goal.returns-in_default-clause-hears
returns-in_default-clause-hears c = λ asked hears.
    hears_byte asked c.args.self.now _ c.args.byte hears refl c.in_ok-made.ensures.text refl refl
    (subst (λ (o : Option TraceEvent). GainsEvent (text_reading c.args.self.now.walk) (text_reading c.push.new.self) (option_map rank_event o)) c.in_default.is c.in_ok-made.ensures.event)
