use Rattle.coll_more.proofs.EndLemmas.{begins}
use Rattle.coll_more.proofs.laws.begins_law.Goals as goal

pub returns : goal.returns
returns c = record { begins = λ s core slot more len src dst free fits. begins s core slot more len src dst free fits }
