use Rattle.rcce_audit.specs.Views.{data_lists}
use Rattle.rcce_audit.proofs.StepLemmas.{IsSwept}
use Rattle.rcce_audit.proofs.judging.sweep.Given as goal

abbrev pub invariant-loop-number : goal.invariant-loop-number
invariant-loop-number l = IsSwept l.setup (data_lists l.lists) l.number l.initial.progress l.progress l.moved
