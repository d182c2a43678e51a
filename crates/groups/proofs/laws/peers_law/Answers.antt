use Rattle.groups.proofs.PeerLaws.{peers-law}
use Rattle.groups.proofs.laws.peers_law.Goals as goal

pub returns : goal.returns
returns c = record { law = λ s r c k step may found. peers-law s r c k step may found }
