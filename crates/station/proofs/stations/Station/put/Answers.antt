use Rattle.std.proofs.Common.{ap, refl, subst, sym}
use Rattle.scc_proto.specs.Permission.{leaves_heap}
use Rattle.scc_proto.specs.Ports.{record_in}
use Rattle.put_get.proofs.HeapLemmas.{put_leaves}
use Rattle.station.specs.Stations.{NoCallOpen, StationAt}
use Rattle.station.proofs.HeapFacts.{put_call}
use Rattle.station.proofs.StationLemmas.{free_after_heap}
use Rattle.station.proofs.stations.Station.put.Goals as goal

pub put-requires-clause-permitted : goal.put-requires-clause-permitted
put-requires-clause-permitted g c fits =
    (put_leaves (g.P.Port.sight c.args.port.now).seat c.known.ensures.valid c.args.src.now (record_in (g.P.Port.sight c.args.port.now)) c.args.to c.args.at.first
    (ap leaves_heap c.requires.free.messages.between.stage) c.requires.below c.first-first.ensures.valid.from_heap).permitted

pub returns-clause-free : goal.returns-clause-free
returns-clause-free g c =
    let s = g.P.Port.sight c.args.port.now in
    let free = subst (λ (a : StationAt). NoCallOpen s a) (sym c.self.view_is) c.requires.free in
    let call = put_call s.seat c.known.ensures.valid c.args.to c.requires.below s _ c.self.inside.core _ refl
    (ap leaves_heap free.messages.between.stage) free.registers c.put.result c.args.at.first c.args.src.now c.first-first.ensures.valid.from_heap
    free.messages.between.empty c.put.ensures.port_unchanged c.put.ensures.core_unchanged c.put.ensures.puts in
    free_after_heap _ free call.seat_is call.alone call.empty

pub returns-clause-calls : goal.returns-clause-calls
returns-clause-calls g c =
    let s = g.P.Port.sight c.args.port.now in
    let free = subst (λ (a : StationAt). NoCallOpen s a) (sym c.self.view_is) c.requires.free in
    (put_call s.seat c.known.ensures.valid c.args.to c.requires.below s _ c.self.inside.core _ refl
    (ap leaves_heap free.messages.between.stage) free.registers c.put.result c.args.at.first c.args.src.now c.first-first.ensures.valid.from_heap
    free.messages.between.empty c.put.ensures.port_unchanged c.put.ensures.core_unchanged c.put.ensures.puts).alone.calls
