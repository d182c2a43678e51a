use Rattle.scc_mesh.proofs.LookLaws.{agrees_then, agrees_now}
use Rattle.scc_mesh.proofs.laws.look_law.Goals as goal

pub returns : goal.returns
returns c = record { then = agrees_then; now = agrees_now }
