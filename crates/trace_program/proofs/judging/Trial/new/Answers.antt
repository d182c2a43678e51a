use Rattle.std.proofs.Common.{refl}
use Rattle.trace_program.proofs.HearingLemmas.{start_tried}
use Rattle.trace_program.proofs.judging.Trial.new.Goals as goal

pub returns-clause-tried : goal.returns-clause-tried
returns-clause-tried c = λ r same empty. start_tried _ c.args.setup r c.in_ok-judge.ensures.setup c.in_ok-judge.ensures.run c.first_event_line-first.ensures.gives refl same empty
