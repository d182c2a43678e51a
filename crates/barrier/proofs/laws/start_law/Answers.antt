use Rattle.barrier.proofs.OtherPort.{free_at_start}
use Rattle.barrier.proofs.laws.start_law.Goals as goal

pub returns : goal.returns
returns c = record { between = λ s core values fresh empty unset. free_at_start s core values fresh empty unset }
