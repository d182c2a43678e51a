use Rattle.std.proofs.Common.{Some, subst}
use Rattle.trace_writer.specs.declared.desks.TraceFault.{TraceFault}
use Rattle.trace_writer.specs.Desks.{HasWritten}
use Rattle.trace_writer.proofs.DeskLaws.{closed_refused, refused_by}
use Rattle.trace_writer.proofs.desks.send_front.Goals as goal

pub returns-in-Write-clause-sent : goal.returns-in-Write-clause-sent
returns-in-Write-clause-sent g c = λ before judge run has.
    subst (λ (f : TraceFault). HasWritten before judge c.args.buffer (g.S.Sink.seen c.args.sink.now) (Some f) run) c.in-Write.is has

pub returns-in-Ok-clause-sent : goal.returns-in-Ok-clause-sent
returns-in-Ok-clause-sent g c = λ before judge run has.
    let was = subst (λ (f : TraceFault). HasWritten before judge c.args.buffer (g.S.Sink.seen c.args.sink.now) (Some f) run) c.in-Refused.is has in
    closed_refused judge.setup c.in-Refused.rank c.in-Refused.why before (g.S.Sink.seen c.args.sink.now) (g.S.Sink.seen c.send.new.sink) c.args.buffer judge.run run was c.in-Ok.ensures.sent

pub returns-in-Err-clause-sent : goal.returns-in-Err-clause-sent
returns-in-Err-clause-sent g c = λ before judge run has.
    let was = subst (λ (f : TraceFault). HasWritten before judge c.args.buffer (g.S.Sink.seen c.args.sink.now) (Some f) run) c.in-Refused.is has in
    refused_by judge.setup c.in-Refused.rank c.in-Refused.why before (g.S.Sink.seen c.args.sink.now) (g.S.Sink.seen c.send.new.sink) c.args.buffer judge.run run c.in-Err.fault was c.in-Err.ensures.sent
