use Rattle.std.proofs.Common.{refl}
use Rattle.run_program.specs.Loading.{asked_by}
use Rattle.trace_script.proofs.TraceLaws.{told_end, told_short}
use Rattle.trace_script.proofs.launcher.tell_end.Goals as goal

pub returns-then-is_finished : goal.returns-then-is_finished
returns-then-is_finished g c = record {
  tells = told_end (asked_by c.args.loaded.now) (g.E.Sink.seen c.args.err.now) (g.E.Sink.seen c.write_err.new.sink) c.new-run.result _ _ c.new-run.ensures c.in-Ok.ensures c.if-is_finished.ensures refl;
}

pub returns-in-Ok : goal.returns-in-Ok
returns-in-Ok g c = record {
  tells = told_end (asked_by c.args.loaded.now) (g.E.Sink.seen c.args.err.now) (g.E.Sink.seen c.write_err.new.sink) c.new-run.result _ _ c.new-run.ensures c.in-Ok.ensures c.if-is_finished.ensures refl;
}

pub returns : goal.returns
returns g c = record {
  tells = told_short (asked_by c.args.loaded.now) (g.E.Sink.seen c.args.err.now) (g.E.Sink.seen c.write_err.new.sink) c.new-run.result c.new-run.ensures c.in-Err.ensures;
}
