use Rattle.plain_meaning.proofs.Orders.BarrierLaws.{met}
use Rattle.plain_meaning.proofs.laws.barriers_meet.Goals as goal

pub returns : goal.returns
returns c = record { law = λ script end reached. met script reached.0 end reached.1 }
