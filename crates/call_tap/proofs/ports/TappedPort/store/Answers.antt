use Rattle.std.proofs.Common.{◌∷◌, ◌++◌, [], subst}
use Rattle.scc_base.specs.Events.{store_of}
use Rattle.scc_base.specs.declared.events.Event.{Event}
use Rattle.scc_proto.specs.Ports.{Sight}
use Rattle.call_tap.specs.Taps.{HasRead}
use Rattle.call_tap.proofs.TapLaws.{read_there}
use Rattle.call_tap.proofs.ports.TappedPort.store.Goals as goal

pub invariant_of-self : goal.invariant_of-self
invariant_of-self g c =
    let t = c.args.self.now in
    let sight : Sight = g.P.Port.sight t.port in
    let s = sight.seat.setup in
    let rank = sight.seat.rank in
    let read = c.read.ensures.reads s rank sight.events (record { setup_is = t.read.setup_is; rank_is = t.read.rank_is; reads = t.read.reads }) in
    let made = subst (λ (e : Event). HasRead c.read.new.self s rank (sight.events ++ e ∷ [])) c.store-2.ensures.gives read in
    record { read = read_there c.read.new.self sight (g.P.Port.sight c.store.new.self) (store_of c.args.p c.args.v) c.store.ensures.did made }
