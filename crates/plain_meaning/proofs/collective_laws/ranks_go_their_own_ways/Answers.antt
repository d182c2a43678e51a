use Rattle.plain_meaning.proofs.OwnWays.OwnWayLaws.{own_ways}
use Rattle.plain_meaning.proofs.collective_laws.ranks_go_their_own_ways.Goals as goal

pub returns : goal.returns
returns c = record { law = λ script end reached. own_ways script reached.0 end reached.1 }
