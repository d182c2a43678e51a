use Rattle.std.proofs.Common.{◌≡◌, drop}
use Rattle.std.specs.List.{find}
use Rattle.script_reader.specs.Progress.{fault_table, has_fault}
use Rattle.script_reader.proofs.reader.Reader.first_fault.Given as goal

-- the faults that are left give what all of them give
abbrev pub invariant-loop-kind : goal.invariant-loop-kind
invariant-loop-kind l = find (has_fault l.self l.effect) (drop l.kind-index fault_table) ≡ find (has_fault l.self l.effect) fault_table
