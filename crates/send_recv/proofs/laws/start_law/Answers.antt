use Rattle.send_recv.proofs.Starts.{free_at_start}
use Rattle.send_recv.proofs.laws.start_law.Goals as goal

pub returns : goal.returns
returns c = record { no_call = λ s core fresh empty. free_at_start s core fresh empty }
