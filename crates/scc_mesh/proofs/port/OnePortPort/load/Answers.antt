use Rattle.std.proofs.Common.{refl}
use Rattle.scc_base.specs.Events.{load_of}
use Rattle.scc_mesh.proofs.PortSteps.{port_did, port_sound, port_step}
use Rattle.scc_mesh.proofs.port.OnePortPort.load.Goals as goal

pub returns-clause-did : goal.returns-clause-did
returns-clause-did c = let port = c.args.self.now in port_did port.chip.now c.make.new.self port.rank port.chip.ghost_name (load_of c.args.p c.make.result) c.make.ensures.did c.make.ensures.same.1 c.make.ensures.same.2 refl

pub returns-clause-step : goal.returns-clause-step
returns-clause-step c = let port = c.args.self.now in port_step port.chip.now c.make.new.self port.rank port.chip.ghost_name (load_of c.args.p c.make.result) c.make.ensures.did c.make.ensures.same.1 c.make.ensures.same.2

pub returns-clause-sound : goal.returns-clause-sound
returns-clause-sound c = let port = c.args.self.now in port_sound port.chip.now c.make.new.self port.rank port.chip.ghost_name (load_of c.args.p c.make.result) c.make.ensures.did c.make.ensures.same.1 c.make.ensures.same.2
