use Rattle.std.proofs.Common.{◌≡◌, sum_by, take}
use Rattle.rcce_ue.specs.Ues.{capped_count}
use Rattle.script_gen.specs.Outcome.{sent_bytes_of}
use Rattle.plain_meaning.specs.Meaning.{State, plain_end}
use Rattle.run_program.proofs.counts.sent_bytes_in.Given as goal

abbrev pub invariant-loop-number : goal.invariant-loop-number
invariant-loop-number l = l.sent ≡ capped_count (sum_by (λ (u : State). sum_by sent_bytes_of u.matched) (take l.number (plain_end l.scripts).cells))
