use Rattle.std.proofs.Common.{subst}
use Rattle.scc_proto.specs.Ports.{IsSoundPort}
use Rattle.scc_mesh.specs.AwayRanks.{Away}
use Rattle.scc_mesh.specs.Scenes.{sight_away}
use Rattle.scc_mesh.proofs.AwaySteps.{sound_away}
use Rattle.scc_mesh.proofs.away.SeatPortPort.rank.Goals as goal

pub returns-clause-sound : goal.returns-clause-sound
returns-clause-sound c =
    let port = c.self.inside in
    subst (λ (p : Away). IsSoundPort (sight_away p.about p.ticket)) c.self.view_is (sound_away port.space.now.about port.token c.self.invariant.1)
