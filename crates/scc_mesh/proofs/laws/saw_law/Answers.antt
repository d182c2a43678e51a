use Rattle.scc_mesh.proofs.LookLaws.{saw_later}
use Rattle.scc_mesh.proofs.laws.saw_law.Goals as goal

pub returns : goal.returns
returns c = record { saw = saw_later }
