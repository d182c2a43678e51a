use Rattle.scc_base.specs.Events.{store_of}
use Rattle.scc_mesh.proofs.AwaySteps.{did_there, step_there, sound_there, may_there}
use Rattle.scc_mesh.proofs.away.SeatPortPort.store.Goals as goal

pub make-requires-clause-permitted : goal.make-requires-clause-permitted
make-requires-clause-permitted c = let port = c.self.inside in may_there port.token port.space.now.about c.args.self.now (store_of c.args.p c.args.v) c.self.view_is c.requires.permitted

pub returns-clause-did : goal.returns-clause-did
returns-clause-did c = let port = c.self.inside in did_there port.token port.space.now.about c.args.self.now (store_of c.args.p c.args.v) c.self.view_is c.make.new.self c.make.ensures.did c.requires.permitted

pub returns-clause-step : goal.returns-clause-step
returns-clause-step c = let port = c.self.inside in step_there port.token port.space.now.about c.args.self.now (store_of c.args.p c.args.v) c.self.view_is c.make.new.self c.make.ensures.did

pub returns-clause-sound : goal.returns-clause-sound
returns-clause-sound c = let port = c.self.inside in sound_there port.token port.space.now.about c.args.self.now (store_of c.args.p c.args.v) c.self.view_is c.make.new.self c.make.ensures.did
