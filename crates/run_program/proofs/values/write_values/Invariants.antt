use Rattle.std.proofs.Common.{◌≡◌, ◌≤◌, ◌-◌}
use Rattle.rcce_io.specs.Sending.{with_text}
use Rattle.run_program.specs.Texts.{values_text_from}
use Rattle.run_program.proofs.values.write_values.Given as goal

abbrev pub invariant-loop-done : goal.invariant-loop-done
invariant-loop-done g l = record {
  within : l.done ≤ l.count;
  so_far : g.S.Sink.seen l.sink ≡ with_text (values_text_from l.ty l.bytes 0 l.done) (g.S.Sink.seen l.initial.sink);
}

abbrev pub decreases-loop-done : goal.decreases-loop-done
decreases-loop-done g l = l.count - l.done
