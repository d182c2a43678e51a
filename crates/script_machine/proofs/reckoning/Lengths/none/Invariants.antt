use Rattle.std.proofs.Common.{◌≡◌, replicate}
use Rattle.script_machine.proofs.reckoning.Lengths.none.Given as goal

abbrev pub invariant-loop : goal.invariant-loop
invariant-loop l = l.registers.items ≡ replicate l.counter 0
