use Rattle.std.specs.Prelude.{◌≡◌, ◌+◌}
use Rattle.chip_run.specs.Away.{Served}
use Rattle.chip_run.proofs.together.begin_all.Given as goal

abbrev pub invariant-loop-at : goal.invariant-loop-at
invariant-loop-at g l = Served (λ k m n. (n ≡ record m { failed = 0 }) × g.G.Gate.passed l.fn.gate (l.fn.start + k)) l.at l.fn.members l.members
