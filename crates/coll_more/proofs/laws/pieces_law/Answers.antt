use Rattle.coll_more.proofs.PieceLemmas.{pieces_there}
use Rattle.coll_more.proofs.laws.pieces_law.Goals as goal

pub returns : goal.returns
returns c = record { pieces = λ more nue len keys calls slots srcs dsts legal made. pieces_there nue len keys calls slots srcs dsts legal more made }
