use Rattle.std.proofs.Common.{[], ◌∷◌, ◌++◌, List, ap, refl, subst, sym}
use Rattle.scc_proto.specs.Words.{RankEvent}
use Rattle.trace_judge.specs.Judged.{JudgeView, chip_of}
use Rattle.trace_judge.proofs.LegalLists.{ruling_told}
use Rattle.trace_writer.specs.Desks.{WasRefused}
use Rattle.trace_writer.proofs.DeskLaws.{front_one, front_same, refused, wrote_by}
use Rattle.trace_writer.proofs.desks.tell.Goals as goal

pub returns-in-Ok-clause-told : goal.returns-in-Ok-clause-told
returns-in-Ok-clause-told g c = λ before run writing.
    let e : RankEvent = record { rank = c.args.rank; event = c.args.event.now } in
    wrote_by before (g.S.Sink.seen c.args.sink.now) (g.S.Sink.seen c.gather.new.sink) c.args.judge.now c.take.new.self c.args.buffer.now c.gather.new.buffer run e writing
    c.setup.result.now c.gather.result c.setup.ensures.gives c.in-Ok.ensures.setup c.requires.below c.requires.event
    (ruling_told (chip_of c.args.judge.now) e (sym c.in-Ok.ensures.refused)) c.in-Ok.ensures.takes c.gather.ensures.gathered

pub returns-in-Err-clause-told : goal.returns-in-Err-clause-told
returns-in-Err-clause-told g c = λ before run writing.
    let e : RankEvent = record { rank = c.args.rank; event = c.args.event.now } in
    subst (λ (j : JudgeView). WasRefused j.setup c.args.rank c.in-Err.why before c.args.buffer.now (g.S.Sink.seen c.args.sink.now) j.run (run ++ e ∷ [])) (sym c.in-Err.ensures.unchanged)
    (refused before (g.S.Sink.seen c.args.sink.now) (g.S.Sink.seen c.args.sink.now) c.args.judge.now c.args.judge.now c.args.buffer.now c.args.buffer.now run e writing
    c.args.rank c.in-Err.why refl (sym c.in-Err.ensures.refused))

pub returns-in-Ok-clause-grows : goal.returns-in-Ok-clause-grows
returns-in-Ok-clause-grows g c = front_one c.args.judge.now.run c.take.new.self.run (record { rank = c.args.rank; event = c.args.event.now }) c.in-Ok.ensures.takes

pub returns-in-Err-clause-grows : goal.returns-in-Err-clause-grows
returns-in-Err-clause-grows g c = front_same c.args.judge.now.run c.take.new.self.run (ap (λ (j : JudgeView). j.run) c.in-Err.ensures.unchanged)
