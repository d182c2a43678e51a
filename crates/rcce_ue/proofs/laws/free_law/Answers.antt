use Rattle.std.proofs.Common.{subst}
use Rattle.rcce_ue.specs.Standing.{Tied}
use Rattle.rcce_ue.specs.declared.calls.Open.{Open}
use Rattle.rcce_ue.proofs.AloneTurns.{free}
use Rattle.rcce_ue.proofs.laws.free_law.Goals as goal

pub returns : goal.returns
returns c = record {
  ue = λ s ue tied is. free ue s (subst (λ (op : Open). Tied (record ue { op = op }) s) is tied);
  barrier = λ s own free. record { between = free.messages.between; parity = free.parity };
}
