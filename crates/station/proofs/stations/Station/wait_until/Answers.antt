use Rattle.std.proofs.Common.{ap, refl, subst, sym}
use Rattle.scc_proto.specs.Permission.{leaves_heap}
use Rattle.station.specs.Stations.{NoCallOpen, StationAt}
use Rattle.station.proofs.HeapFacts.{wait_call}
use Rattle.station.proofs.StationLemmas.{free_after_heap}
use Rattle.station.proofs.stations.Station.wait_until.Goals as goal

pub returns-clause-free : goal.returns-clause-free
returns-clause-free g c =
    let s = g.P.Port.sight c.args.port.now in
    let free = subst (λ (a : StationAt). NoCallOpen s a) (sym c.self.view_is) c.requires.free in
    let call = wait_call s.seat c.known.ensures.valid s.seat.rank c.known.ensures.below s _ c.self.inside.core _ refl
    (ap leaves_heap free.messages.between.stage) free.registers c.args.flag c.requires.heap c.wait_until.ensures.empty c.args.want c.self.inside.polls c.wait_until.result c.wait_until.ensures.waits in
    free_after_heap _ free call.seat_is call.alone call.empty

pub returns-clause-calls : goal.returns-clause-calls
returns-clause-calls g c =
    let s = g.P.Port.sight c.args.port.now in
    let free = subst (λ (a : StationAt). NoCallOpen s a) (sym c.self.view_is) c.requires.free in
    (wait_call s.seat c.known.ensures.valid s.seat.rank c.known.ensures.below s _ c.self.inside.core _ refl
    (ap leaves_heap free.messages.between.stage) free.registers c.args.flag c.requires.heap c.wait_until.ensures.empty c.args.want c.self.inside.polls c.wait_until.result c.wait_until.ensures.waits).alone.calls

pub returns-clause-seat : goal.returns-clause-seat
returns-clause-seat g c =
    let s = g.P.Port.sight c.args.port.now in
    let free = subst (λ (a : StationAt). NoCallOpen s a) (sym c.self.view_is) c.requires.free in
    (wait_call s.seat c.known.ensures.valid s.seat.rank c.known.ensures.below s _ c.self.inside.core _ refl
    (ap leaves_heap free.messages.between.stage) free.registers c.args.flag c.requires.heap c.wait_until.ensures.empty c.args.want c.self.inside.polls c.wait_until.result c.wait_until.ensures.waits).seat_is
