use Rattle.std.proofs.Common.{[], ◌∷◌, ◌++◌, Option, sym, subst}
use Rattle.scc_proto.specs.Words.{RankEvent}
use Rattle.trace_writer.specs.declared.desks.TraceFault.{TraceFault}
use Rattle.trace_writer.specs.Desks.{HasWritten}
use Rattle.trace_writer.proofs.DeskLaws.{fault_stays, front_on}
use Rattle.trace_writer.proofs.desks.DeskWitness.note.Goals as goal

pub returns-in-None-clause-noted : goal.returns-in-None-clause-noted
returns-in-None-clause-noted g c = λ run has.
    let d = c.args.self.now in (
      has.0,
      c.tell-self.ensures.told g.B.Origin.before run
          (subst (λ (f : Option TraceFault). HasWritten g.B.Origin.before d.judge d.buffer (g.S.Sink.seen d.sink.now) f run) c.in-None.is has.1),
    )

pub returns-in-Some-clause-noted : goal.returns-in-Some-clause-noted
returns-in-Some-clause-noted g c = λ run has.
    let d = c.args.self.now in
    let e : RankEvent = record { rank = c.args.rank; event = c.args.event } in (
      has.0,
      subst (λ (f : Option TraceFault). HasWritten g.B.Origin.before d.judge d.buffer (g.S.Sink.seen d.sink.now) f (run ++ e ∷ [])) (sym c.in-Some.is)
          (fault_stays g.B.Origin.before d.judge d.buffer (g.S.Sink.seen d.sink.now) _ run e
          (subst (λ (f : Option TraceFault). HasWritten g.B.Origin.before d.judge d.buffer (g.S.Sink.seen d.sink.now) f run) c.in-Some.is has.1)),
    )

pub returns-in-None-clause-wanted : goal.returns-in-None-clause-wanted
returns-in-None-clause-wanted g c = λ run was. front_on run c.args.self.now.judge.run c.tell-self.new.judge.run was c.tell-self.ensures.grows
