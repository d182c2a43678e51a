use Rattle.barrier.proofs.OtherPort.{free_after_turn}
use Rattle.barrier.proofs.laws.done_law.Goals as goal

pub returns : goal.returns
returns c = record { between = λ s t core d op now values later turned st. free_after_turn turned st }
