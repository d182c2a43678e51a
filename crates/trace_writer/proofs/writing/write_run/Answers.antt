use Rattle.std.proofs.Common.{ap, refl, rules}
use Rattle.trace_writer.proofs.WritingLaws.{in_order, keeps_up, ran_to_end, traced}
use Rattle.trace_writer.proofs.writing.write_run.Goals as goal

pub returns-in-Err-clause-trace : goal.returns-in-Err-clause-trace
returns-in-Err-clause-trace g c =
    let n = c.write_as-witness.ensures.same in
    let d = c.write_as-witness.result.witness in
    traced _ _ _ d.judge.run c.write_as-witness.new.chip (g.S.Sink.seen c.args.out.now) (g.S.Sink.seen c.args.out.now) (g.S.Sink.seen c.close.new.sink) _ _ c.write_as-witness.ensures.seen refl
    (ap g.S.Sink.seen (search (rules, n))) (λ run told. c.in-Err.ensures.sent (g.S.Sink.seen c.args.out.now) d.judge run told.1)
    (keeps_up g.W.Worker.behaviour _ d.judge.run c.args.seed c.args.chip.now c.write_as-witness.new.chip c.args.crew.now c.write_as-witness.new.crew c.write_as-witness.result.end c.write_as-witness.ensures.ends)

pub returns-in-Err-clause-ends : goal.returns-in-Err-clause-ends
returns-in-Err-clause-ends g c =
    let d = c.write_as-witness.result.witness in
    in_order g.W.Worker.behaviour _ d.judge.run c.args.seed c.args.chip.now c.write_as-witness.new.chip c.args.crew.now c.write_as-witness.new.crew c.write_as-witness.result.end c.write_as-witness.ensures.ends

pub returns-in-Some-clause-trace : goal.returns-in-Some-clause-trace
returns-in-Some-clause-trace g c =
    let n = c.write_as-witness.ensures.same in
    let d = c.write_as-witness.result.witness in
    traced _ _ _ d.judge.run c.write_as-witness.new.chip (g.S.Sink.seen c.args.out.now) (g.S.Sink.seen c.args.out.now) (g.S.Sink.seen c.close.new.sink) _ _ c.write_as-witness.ensures.seen refl
    (ap g.S.Sink.seen (search (rules, n))) (λ run told. c.in-Ok.ensures.sent (g.S.Sink.seen c.args.out.now) d.judge run told.1)
    (keeps_up g.W.Worker.behaviour _ d.judge.run c.args.seed c.args.chip.now c.write_as-witness.new.chip c.args.crew.now c.write_as-witness.new.crew c.write_as-witness.result.end c.write_as-witness.ensures.ends)

pub returns-in-Some-clause-ends : goal.returns-in-Some-clause-ends
returns-in-Some-clause-ends g c =
    let d = c.write_as-witness.result.witness in
    ran_to_end g.W.Worker.behaviour _ d.judge.run c.args.seed c.args.chip.now c.write_as-witness.new.chip c.args.crew.now c.write_as-witness.new.crew c.in-Some.end c.write_as-witness.result.end c.in-Some.is c.write_as-witness.ensures.ends
