use Rattle.trace_writer.proofs.DeskLaws.{began_by}
use Rattle.trace_writer.proofs.desks.begin.Goals as goal

pub returns : goal.returns
returns g c = record {
  begun = began_by c.setup.result.now c.args.judge.now (g.S.Sink.seen c.args.sink.now) (g.S.Sink.seen c.gather.new.sink) c.setup.ensures.gives
      c.args.buffer.now c.gather.new.buffer c.gather.result c.requires.new c.requires.none c.gather.ensures.gathered;
}
