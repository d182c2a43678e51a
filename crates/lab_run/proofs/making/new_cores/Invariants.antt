use Rattle.std.proofs.Common.{◌≡◌, map, replicate}
use Rattle.lab_plain.specs.Meaning.{holds_nothing}
use Rattle.lab_run.specs.Stands.{holds_of}
use Rattle.lab_run.proofs.making.new_cores.Given as goal

-- the cores made so far hold nothing
abbrev pub invariant-loop-core : goal.invariant-loop-core
invariant-loop-core l = map holds_of l.cores.items ≡ replicate l._core holds_nothing
