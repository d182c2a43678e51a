use Rattle.coll_more.proofs.EndLemmas.{stands_there}
use Rattle.coll_more.proofs.laws.other_port_law.Goals as goal

pub returns : goal.returns
returns c = record { stands = λ base s mark rest hold core op slot src dst st. stands_there s mark rest hold base core op slot src dst st }
