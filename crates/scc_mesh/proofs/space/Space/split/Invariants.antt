use Rattle.scc_mesh.specs.Keeping.{no_event}
use Rattle.scc_mesh.proofs.space.Space.split.Given as goal

abbrev pub ghosts-split_as : goal.ghosts-split_as
ghosts-split_as a = record { about = a.self.now.about; rank = a.rank; event = no_event }
