use Rattle.std.proofs.Math.Logic.{∥∥₁_map}
use Rattle.run_program.specs.Loading.{asked_by}
use Rattle.trace_script.proofs.TraceLaws.{ended_run, fault_run}
use Rattle.trace_script.proofs.launcher.trace_crew.Goals as goal

pub returns-in-Ok-clause-traces : goal.returns-in-Ok-clause-traces
returns-in-Ok-clause-traces g c =
    ∥∥₁_map c.in-Ok.ensures.trace (λ trace. ended_run (asked_by c.args.loaded.now) c.run_traced.new.chip c.in-Ok.ensures.stands (g.O.Sink.seen c.args.out.now) (g.O.Sink.seen c.run_traced.new.out)
    (g.E.Sink.seen c.args.err.now) (g.E.Sink.seen c.tell_end.new.err) c.in-Ok.end c.run_traced.new.crew c.tell_end.result trace c.in-Ok.ensures.over c.tell_end.ensures.tells)

pub returns-in-Err-clause-traces : goal.returns-in-Err-clause-traces
returns-in-Err-clause-traces g c =
    ∥∥₁_map c.in-Err.ensures.trace (λ trace. fault_run (asked_by c.args.loaded.now) c.run_traced.new.chip c.in-Err.ensures.stands (g.O.Sink.seen c.args.out.now) (g.O.Sink.seen c.run_traced.new.out)
    (g.E.Sink.seen c.args.err.now) (g.E.Sink.seen c.tell_fault.new.err) c.in-Err.fault c.tell_fault.result trace c.tell_fault.ensures.tells)
