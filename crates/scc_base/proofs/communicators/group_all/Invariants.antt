use Rattle.scc_base.specs.Tables.{ShowAll}
use Rattle.std.proofs.Common.{◌≡◌, length}
use Rattle.scc_base.proofs.communicators.group_all.Given as goal

abbrev pub invariant-loop-comm : goal.invariant-loop-comm
invariant-loop-comm l = (length l.groups ≡ 16) × ShowAll l.comms l.comm l.groups
