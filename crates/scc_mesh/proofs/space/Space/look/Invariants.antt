use Rattle.scc_mesh.specs.Keeping.{no_event}
use Rattle.scc_mesh.proofs.space.Space.look.Given as goal

abbrev pub ghosts-look_as : goal.ghosts-look_as
ghosts-look_as a = record { about = a.self.now.about; rank = 0; event = no_event }
