use Rattle.audit_program.proofs.LogLemmas.{HoldBelow}
use Rattle.audit_program.proofs.logged.held_log.Given as goal

abbrev pub invariant-loop-number : goal.invariant-loop-number
invariant-loop-number l = HoldBelow l.run l.number l.lists
