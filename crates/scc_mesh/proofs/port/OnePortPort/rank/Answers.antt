use Rattle.scc_mesh.proofs.HomeLaws.{port_is_sound}
use Rattle.scc_mesh.proofs.port.OnePortPort.rank.Goals as goal

pub returns-clause-sound : goal.returns-clause-sound
returns-clause-sound c = let port = c.args.self.now in port_is_sound port.chip.now port.rank port.chip.ghost_name port.home c.tells.ensures.knows
