use Rattle.std.proofs.Common.{sym, ap, subst}
use Rattle.scc_base.specs.Places.{WordAt}
use Rattle.scc_base.specs.Events.{free_of}
use Rattle.scc_proto.specs.Records.{IsPermitted, record_of}
use Rattle.scc_mesh.specs.Keeping.{Made}
use Rattle.scc_mesh.specs.Scenes.{about_in, home_in, events_in}
use Rattle.scc_mesh.proofs.PortSteps.{port_did, port_sound, port_step, may_make}
use Rattle.scc_mesh.proofs.port.OnePortPort.free.Goals as goal

pub make-requires-clause-permitted : goal.make-requires-clause-permitted
make-requires-clause-permitted c =
    let port = c.args.self.now in
    let core = ap (λ (p : WordAt). p.core) c.register.ensures.gives in
    subst (λ k. IsPermitted (about_in port.chip.now) port.rank (record_of (about_in port.chip.now) port.rank (events_in port.chip.now port.rank)) (free_of k)) (sym core)
    (may_make port.chip.now port.rank port.chip.ghost_name (free_of c.args.c) c.requires.permitted)

pub returns-clause-did : goal.returns-clause-did
returns-clause-did c =
    let port = c.args.self.now in
    let core = ap (λ (p : WordAt). p.core) c.register.ensures.gives in
    let made = subst (λ k. Made (about_in port.chip.now) port.rank (home_in port.chip.now) (free_of k) (home_in c.make.new.self)) core c.make.ensures.did in
    port_did port.chip.now c.make.new.self port.rank port.chip.ghost_name (free_of c.args.c) made c.make.ensures.same.1 c.make.ensures.same.2 c.requires.permitted

pub returns-clause-step : goal.returns-clause-step
returns-clause-step c =
    let port = c.args.self.now in
    let core = ap (λ (p : WordAt). p.core) c.register.ensures.gives in
    let made = subst (λ k. Made (about_in port.chip.now) port.rank (home_in port.chip.now) (free_of k) (home_in c.make.new.self)) core c.make.ensures.did in
    port_step port.chip.now c.make.new.self port.rank port.chip.ghost_name (free_of c.args.c) made c.make.ensures.same.1 c.make.ensures.same.2

pub returns-clause-sound : goal.returns-clause-sound
returns-clause-sound c =
    let port = c.args.self.now in
    let core = ap (λ (p : WordAt). p.core) c.register.ensures.gives in
    let made = subst (λ k. Made (about_in port.chip.now) port.rank (home_in port.chip.now) (free_of k) (home_in c.make.new.self)) core c.make.ensures.did in
    port_sound port.chip.now c.make.new.self port.rank port.chip.ghost_name (free_of c.args.c) made c.make.ensures.same.1 c.make.ensures.same.2
