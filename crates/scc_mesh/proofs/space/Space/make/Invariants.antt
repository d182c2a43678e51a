use Rattle.scc_mesh.specs.Keeping.{event_found}
use Rattle.scc_mesh.proofs.space.Space.make.Given as goal

abbrev pub ghosts-make_as : goal.ghosts-make_as
ghosts-make_as a = record { about = a.self.now.about; rank = a.rank; event = λ n. event_found a.access a.place a.value n }
