use Rattle.coll_more.proofs.EndLemmas.{start_left}
use Rattle.coll_more.proofs.laws.turns_law.Goals as goal

pub returns : goal.returns
returns c = record { bound = λ seat more len slot. start_left seat more len slot }
