use Rattle.std.proofs.Common.{ap, refl, subst, sym}
use Rattle.scc_proto.specs.Permission.{leaves_heap}
use Rattle.station.specs.Stations.{NoCallOpen, StationAt}
use Rattle.station.proofs.HeapFacts.{get_call}
use Rattle.station.proofs.StationLemmas.{free_after_heap}
use Rattle.station.proofs.stations.Station.get.Goals as goal

pub returns-clause-free : goal.returns-clause-free
returns-clause-free g c =
    let s = g.P.Port.sight c.args.port.now in
    let free = subst (λ (a : StationAt). NoCallOpen s a) (sym c.self.view_is) c.requires.free in
    let call = get_call s.seat c.known.ensures.valid c.args.from c.requires.below s _ c.self.inside.core _ refl
    (ap leaves_heap free.messages.between.stage) free.registers c.get.result c.args.at.first _ c.first-first.ensures.valid.from_heap
    free.messages.between.empty c.get.ensures.port_unchanged c.get.ensures.core_unchanged c.get.ensures.gets in
    free_after_heap _ free call.seat_is call.alone call.empty

pub returns-clause-calls : goal.returns-clause-calls
returns-clause-calls g c =
    let s = g.P.Port.sight c.args.port.now in
    let free = subst (λ (a : StationAt). NoCallOpen s a) (sym c.self.view_is) c.requires.free in
    (get_call s.seat c.known.ensures.valid c.args.from c.requires.below s _ c.self.inside.core _ refl
    (ap leaves_heap free.messages.between.stage) free.registers c.get.result c.args.at.first _ c.first-first.ensures.valid.from_heap
    free.messages.between.empty c.get.ensures.port_unchanged c.get.ensures.core_unchanged c.get.ensures.gets).alone.calls
