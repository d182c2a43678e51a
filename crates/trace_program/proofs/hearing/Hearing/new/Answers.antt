use Rattle.std.proofs.Common.{refl}
use Rattle.trace_program.proofs.HearingLemmas.{starts_hearing}
use Rattle.trace_program.proofs.hearing.Hearing.new.Goals as goal

pub returns-clause-hears : goal.returns-clause-hears
returns-clause-hears c = starts_hearing c.args.asked _ refl c.in_ok-walk.ensures refl c.in_ok-finished.ensures.none
