use Rattle.plain_meaning.proofs.OwnWays.CameDid.{came_matched}
use Rattle.plain_meaning.proofs.laws.ways_tell_calls.Goals as goal

pub returns : goal.returns
returns c = record { law = λ start u last none came. came_matched start u last none came }
