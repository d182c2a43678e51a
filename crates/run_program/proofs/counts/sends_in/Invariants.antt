use Rattle.std.proofs.Common.{◌≡◌, sum_by, take}
use Rattle.rcce_ue.specs.Ues.{capped_count}
use Rattle.script_gen.specs.Outcome.{sends_of_call}
use Rattle.plain_meaning.specs.Meaning.{State, plain_end}
use Rattle.run_program.proofs.counts.sends_in.Given as goal

abbrev pub invariant-loop-number : goal.invariant-loop-number
invariant-loop-number l = l.sends ≡ capped_count (sum_by (λ (u : State). sum_by sends_of_call u.matched) (take l.number (plain_end l.scripts).cells))
