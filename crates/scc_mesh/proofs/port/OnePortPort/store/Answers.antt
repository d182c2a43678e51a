use Rattle.scc_base.specs.Events.{store_of}
use Rattle.scc_mesh.proofs.PortSteps.{port_did, port_sound, port_step, may_make}
use Rattle.scc_mesh.proofs.port.OnePortPort.store.Goals as goal

pub make-requires-clause-permitted : goal.make-requires-clause-permitted
make-requires-clause-permitted c = let port = c.args.self.now in may_make port.chip.now port.rank port.chip.ghost_name (store_of c.args.p c.args.v) c.requires.permitted

pub returns-clause-did : goal.returns-clause-did
returns-clause-did c = let port = c.args.self.now in port_did port.chip.now c.make.new.self port.rank port.chip.ghost_name (store_of c.args.p c.args.v) c.make.ensures.did c.make.ensures.same.1 c.make.ensures.same.2 c.requires.permitted

pub returns-clause-step : goal.returns-clause-step
returns-clause-step c = let port = c.args.self.now in port_step port.chip.now c.make.new.self port.rank port.chip.ghost_name (store_of c.args.p c.args.v) c.make.ensures.did c.make.ensures.same.1 c.make.ensures.same.2

pub returns-clause-sound : goal.returns-clause-sound
returns-clause-sound c = let port = c.args.self.now in port_sound port.chip.now c.make.new.self port.rank port.chip.ghost_name (store_of c.args.p c.args.v) c.make.ensures.did c.make.ensures.same.1 c.make.ensures.same.2
