use Rattle.lab_run.proofs.RegisterLaws.{free_call, take_call}
use Rattle.lab_run.proofs.laws.register_calls_law.Goals as goal

pub returns : goal.returns
returns c = record { take = take_call; free = free_call }
