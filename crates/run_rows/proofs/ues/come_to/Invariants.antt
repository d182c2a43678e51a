use Rattle.std.proofs.Common.{◌≡◌}
use Rattle.run_rows.proofs.ues.come_to.Given as goal

abbrev pub invariant-loop-number : goal.invariant-loop-number
invariant-loop-number g l = l.team ≡ record { about = l.setup; size = l.number }
