use Rattle.std.proofs.Common.{ℕ, ◌<◌}
use Rattle.scc_base.specs.Communicators.{IsRule, rule_of}
use Rattle.scc_base.proofs.communicators.are_rules.Given as goal

abbrev pub invariant-loop-comm : goal.invariant-loop-comm
invariant-loop-comm l = (comm : ℕ) → comm < l.comm → IsRule l.comms comm (rule_of l.comms comm)
