use Rattle.std.proofs.Common.{ap, refl, subst, sym}
use Rattle.scc_proto.specs.Permission.{leaves_heap}
use Rattle.station.specs.Stations.{NoCallOpen, StationAt}
use Rattle.station.proofs.HeapFacts.{read_call}
use Rattle.station.proofs.StationLemmas.{free_after_heap}
use Rattle.station.proofs.stations.Station.read.Goals as goal

pub returns-clause-free : goal.returns-clause-free
returns-clause-free g c =
    let s = g.P.Port.sight c.args.port.now in
    let free = subst (λ (a : StationAt). NoCallOpen s a) (sym c.self.view_is) c.requires.free in
    let call = read_call s.seat c.known.ensures.valid c.args.at c.requires.below s _ c.self.inside.core _ refl
    (ap leaves_heap free.messages.between.stage) free.registers c.args.flag c.requires.heap c.flag_read.ensures.empty c.flag_read.result c.flag_read.ensures.reads in
    free_after_heap _ free call.seat_is call.alone call.empty

pub returns-clause-calls : goal.returns-clause-calls
returns-clause-calls g c =
    let s = g.P.Port.sight c.args.port.now in
    let free = subst (λ (a : StationAt). NoCallOpen s a) (sym c.self.view_is) c.requires.free in
    (read_call s.seat c.known.ensures.valid c.args.at c.requires.below s _ c.self.inside.core _ refl
    (ap leaves_heap free.messages.between.stage) free.registers c.args.flag c.requires.heap c.flag_read.ensures.empty c.flag_read.result c.flag_read.ensures.reads).alone.calls
