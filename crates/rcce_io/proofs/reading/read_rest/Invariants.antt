use Rattle.std.proofs.Common.{◌≡◌, ◌+◌, ◌-◌, ◌≤◌, vec_len}
use Rattle.rcce_io.specs.Files.{with_rest}
use Rattle.rcce_io.specs.Reading.{whole_of}
use Rattle.rcce_io.proofs.reading.read_rest.Given as goal

abbrev pub invariant-loop-bytes : goal.invariant-loop-bytes
invariant-loop-bytes g l =
    let before = g.F.Files.seen l.initial.files in
    let now = g.F.Files.seen l.files in
    record {
      same : now ≡ with_rest now.rest before;
      within : vec_len l.bytes ≤ l.limit + 1;
      whole : whole_of l.bytes.items now.rest ≡ before.rest;
    }

abbrev pub decreases-loop-bytes : goal.decreases-loop-bytes
decreases-loop-bytes g l = l.limit + 1 - vec_len l.bytes
