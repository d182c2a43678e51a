use Rattle.std.proofs.Common.{Option, subst}
use Rattle.trace_writer.specs.declared.desks.TraceFault.{TraceFault}
use Rattle.trace_writer.specs.Desks.{HasWritten}
use Rattle.trace_writer.proofs.DeskLaws.{closed_by}
use Rattle.trace_writer.proofs.desks.close.Goals as goal

pub returns-in-None-clause-sent : goal.returns-in-None-clause-sent
returns-in-None-clause-sent g c = λ before judge run has.
    let writing = subst (λ (f : Option TraceFault). HasWritten before judge c.args.buffer (g.S.Sink.seen c.args.sink.now) f run) c.in-None.is has in
    closed_by before (g.S.Sink.seen c.args.sink.now) (g.S.Sink.seen c.send.new.sink) judge c.args.buffer run c.send.result writing c.send.ensures.sent
