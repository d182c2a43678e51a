use Rattle.std.proofs.Common.{refl}
use Rattle.scc_base.specs.Events.{load_of}
use Rattle.scc_mesh.proofs.AwaySteps.{did_there, step_there, sound_there}
use Rattle.scc_mesh.proofs.away.SeatPortPort.load.Goals as goal

pub returns-clause-did : goal.returns-clause-did
returns-clause-did c = let port = c.self.inside in did_there port.token port.space.now.about c.args.self.now (load_of c.args.p c.make.result) c.self.view_is c.make.new.self c.make.ensures.did refl

pub returns-clause-step : goal.returns-clause-step
returns-clause-step c = let port = c.self.inside in step_there port.token port.space.now.about c.args.self.now (load_of c.args.p c.make.result) c.self.view_is c.make.new.self c.make.ensures.did

pub returns-clause-sound : goal.returns-clause-sound
returns-clause-sound c = let port = c.self.inside in sound_there port.token port.space.now.about c.args.self.now (load_of c.args.p c.make.result) c.self.view_is c.make.new.self c.make.ensures.did
