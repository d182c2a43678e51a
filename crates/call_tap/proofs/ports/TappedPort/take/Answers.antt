use Rattle.std.proofs.Common.{◌∷◌, ◌++◌, [], subst}
use Rattle.scc_base.specs.Events.{take_of}
use Rattle.scc_base.specs.declared.events.Event.{Event}
use Rattle.scc_proto.specs.Ports.{Sight}
use Rattle.call_tap.specs.Taps.{HasRead}
use Rattle.call_tap.proofs.TapLaws.{read_there}
use Rattle.call_tap.proofs.ports.TappedPort.take.Goals as goal

pub invariant_of-self : goal.invariant_of-self
invariant_of-self g c =
    let t = c.args.self.now in
    let sight : Sight = g.P.Port.sight t.port in
    let s = sight.seat.setup in
    let rank = sight.seat.rank in
    let read = c.read.ensures.reads s rank sight.events (record { setup_is = t.read.setup_is; rank_is = t.read.rank_is; reads = t.read.reads }) in
    let made = subst (λ (e : Event). HasRead c.read.new.self s rank (sight.events ++ e ∷ [])) c.take.ensures.gives read in
    record { read = read_there c.read.new.self sight (g.P.Port.sight c.take-taken.new.self) (take_of c.args.c c.take-taken.result) c.take-taken.ensures.did made }
