use Rattle.std.proofs.Common.{subst, sym, rules}
use Rattle.trace_writer.specs.declared.desks.TraceFault.{TraceFault}
use Rattle.trace_script.specs.declared.endings.TraceEnd.TheVariants as end_of
use Rattle.trace_script.specs.Tracing.{TellsFault}
use Rattle.trace_script.proofs.launcher.tell_fault.Goals as goal

pub returns-in-Refused : goal.returns-in-Refused
returns-in-Refused g c = record {
  tells = subst (λ (f : TraceFault). TellsFault f (g.E.Sink.seen c.args.err.now) (g.E.Sink.seen c.write_refused.new.err) end_of.Refused) (sym c.in-Refused.is)
      (c.write_refused.result, c.write_refused.ensures);
}

-- Names the goal, so that the prover rejects a wrong body at once, without a search.
pub returns-in-Write : goal.returns-in-Write
returns-in-Write g c = search rules
