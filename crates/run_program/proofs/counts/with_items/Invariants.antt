use Rattle.std.proofs.Common.{◌≡◌, ◌+◌, ◌%◌, ◌^◌, sum_by, take}
use Rattle.std.specs.List.{sum}
use Rattle.plain_meaning.specs.Ends.{ended_at}
use Rattle.script_machine.specs.Printed.{Printed}
use Rattle.run_program.proofs.counts.with_items.Given as goal

abbrev pub invariant-loop-i : goal.invariant-loop-i
invariant-loop-i g l = l.total ≡ (l.fn.so_far + sum_by (λ (item : Printed). sum item.bytes) (take l.i (ended_at (g.T.Endings.ended l.run) l.rank).printed)) % 2 ^ 32
