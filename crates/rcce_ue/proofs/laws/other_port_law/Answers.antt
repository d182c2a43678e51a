use Rattle.rcce_ue.proofs.OtherPort.{tied_there}
use Rattle.rcce_ue.proofs.laws.other_port_law.Goals as goal

pub returns : goal.returns
returns c = record { law = λ s mark rest hold ue tied. tied_there s mark rest hold ue tied }
