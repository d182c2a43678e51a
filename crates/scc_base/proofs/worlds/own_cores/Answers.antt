use Rattle.std.proofs.Common.{arith}
use Rattle.scc_base.proofs.WorldCores.{cores_filled, filled_apart}
use Rattle.scc_base.proofs.worlds.own_cores.Goals as goal

pub returns-clause-gives : goal.returns-clause-gives
returns-clause-gives c = cores_filled c.loop-number.cores c.loop-number.invariant.all (λ k h. c.loop-number.invariant.each k (omega arith))

pub returns-clause-own : goal.returns-clause-own
returns-clause-own c = λ r h. c.loop-number.invariant.each r (omega arith)

pub returns-clause-apart : goal.returns-clause-apart
returns-clause-apart c = filled_apart c.loop-number.cores c.loop-number.invariant.all (λ k h. c.loop-number.invariant.each k (omega arith))
