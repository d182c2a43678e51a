use Rattle.std.proofs.Common.{false, nat_eq, sym, ap, subst}
use Rattle.scc_base.specs.Places.{WordAt}
use Rattle.scc_base.specs.Events.{take_of}
use Rattle.scc_proto.specs.Records.{IsPermitted, record_of}
use Rattle.scc_mesh.specs.AwayRanks.{MadeAway}
use Rattle.scc_mesh.proofs.AwaySteps.{sound_there, may_there}
use Rattle.scc_mesh.proofs.away.SeatPortPort.take.Goals as goal

pub make-requires-clause-permitted : goal.make-requires-clause-permitted
make-requires-clause-permitted c =
    let port = c.self.inside in
    let core = ap (λ (p : WordAt). p.core) c.register.ensures.gives in
    subst (λ k. IsPermitted port.space.now.about port.token.rank (record_of port.space.now.about port.token.rank port.token.events) (take_of k false)) (sym core)
    (may_there port.token port.space.now.about c.args.self.now (take_of c.args.c false) c.self.view_is c.requires.permitted)

pub returns-clause-sound : goal.returns-clause-sound
returns-clause-sound c =
    let port = c.self.inside in
    let core = ap (λ (p : WordAt). p.core) c.register.ensures.gives in
    let made = subst (λ k. MadeAway port.space.now.about port.token (take_of k (nat_eq c.make.result 0)) c.make.new.self) core c.make.ensures.did in
    sound_there port.token port.space.now.about c.args.self.now (take_of c.args.c (nat_eq c.make.result 0)) c.self.view_is c.make.new.self made
