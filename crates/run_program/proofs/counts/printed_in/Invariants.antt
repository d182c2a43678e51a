use Rattle.std.proofs.Common.{◌≡◌, ◌%◌, ◌^◌, sum_by, take}
use Rattle.script_gen.specs.Outcome.{item_bytes}
use Rattle.run_program.proofs.counts.printed_in.Given as goal

abbrev pub invariant-loop-number : goal.invariant-loop-number
invariant-loop-number g l = l.total ≡ sum_by item_bytes (take l.number (g.T.Endings.ended l.run)) % 2 ^ 32
