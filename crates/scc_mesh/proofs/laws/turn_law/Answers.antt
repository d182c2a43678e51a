use Rattle.scc_mesh.proofs.TurnLaws.{turn_leaves}
use Rattle.scc_mesh.proofs.laws.turn_law.Goals as goal

pub returns : goal.returns
returns c = record { turned = turn_leaves }
