use Rattle.std.proofs.Common.{◌≡◌, ◌+◌, ◌-◌, ◌≤◌, Bool, length}
use Rattle.rcce_io.specs.Files.{with_rest}
use Rattle.rcce_io.specs.Reading.{whole_of}
use Rattle.trace_program.specs.Hearings.{Hears}
use Rattle.trace_text.specs.Traces.{most_trace_bytes}
use Rattle.trace_program.proofs.hearing.Hearing.read_rest.Given as goal

abbrev pub invariant-loop-self : goal.invariant-loop-self
invariant-loop-self g l =
    let before = g.F.Files.seen l.initial.files in
    let now = g.F.Files.seen l.files in
    record {
      same : now ≡ with_rest now.rest before;
      counted : l.self.bytes ≡ length l.self.walk;
      within : length l.self.walk ≤ most_trace_bytes + 1;
      whole : whole_of l.self.walk now.rest ≡ before.rest;
      hears : (asked : Bool) → Hears asked l.initial.self → Hears asked l.self;
    }

abbrev pub decreases-loop-self : goal.decreases-loop-self
decreases-loop-self g l = most_trace_bytes + 1 - length l.self.walk
