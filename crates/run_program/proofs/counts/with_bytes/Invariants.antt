use Rattle.std.proofs.Common.{◌≡◌, ◌+◌, ◌%◌, ◌^◌, take}
use Rattle.std.specs.List.{sum}
use Rattle.run_program.proofs.counts.with_bytes.Given as goal

abbrev pub invariant-loop-byte : goal.invariant-loop-byte
invariant-loop-byte l = l.total ≡ (l.fn.so_far + sum (take l.byte-index l.bytes)) % 2 ^ 32
