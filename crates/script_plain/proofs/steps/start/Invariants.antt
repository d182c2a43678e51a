use Rattle.std.proofs.Common.{◌≡◌, map}
use Rattle.std.specs.List.{range_with_len}
use Rattle.script_machine.specs.Local.{local_start}
use Rattle.script_plain.proofs.steps.start.Given as goal

abbrev pub invariant-loop-number : goal.invariant-loop-number
invariant-loop-number l = l.ues.items ≡ map (local_start l.scripts) (range_with_len 0 l.number)
