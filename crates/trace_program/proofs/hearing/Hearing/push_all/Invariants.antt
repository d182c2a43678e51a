use Rattle.std.proofs.Common.{◌≡◌, ◌++◌, Bool, take}
use Rattle.trace_program.specs.Hearings.{Hears}
use Rattle.trace_program.proofs.hearing.Hearing.push_all.Given as goal

abbrev pub invariant-loop-byte : goal.invariant-loop-byte
invariant-loop-byte l = record {
  text : l.self.walk ≡ l.initial.self.walk ++ take l.byte-index l.bytes;
  hears : (asked : Bool) → Hears asked l.initial.self → Hears asked l.self;
}
