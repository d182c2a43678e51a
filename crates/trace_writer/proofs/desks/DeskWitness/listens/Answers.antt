use Rattle.std.proofs.Common.{not, ◌∙◌, ap}
use Rattle.trace_writer.proofs.DeskLaws.{heard_by}
use Rattle.trace_writer.proofs.desks.DeskWitness.listens.Goals as goal

pub returns-clause-wanted : goal.returns-clause-wanted
returns-clause-wanted g c = λ yes run has.
    let d = c.args.self.now in
    heard_by g.B.Origin.before d.judge d.buffer (g.S.Sink.seen d.sink.now) d.fault run (ap not (c.is_none.ensures ∙ ap not yes)) has.1
