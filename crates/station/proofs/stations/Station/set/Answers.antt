use Rattle.std.proofs.Common.{◌≡◌, ◌<◌, ◌≤◌, ℕ, Bool, true, Option, Some, None, is_none, ap, refl, subst, sym, rules}
use Rattle.scc_base.specs.Places.{FlagPlace}
use Rattle.scc_proto.specs.Permission.{leaves_heap}
use Rattle.scc_base.specs.Setups.{IsSetup, host_of}
use Rattle.scc_proto.specs.Stages.{FlagWords, Record}
use Rattle.scc_proto.specs.Ports.{Seat, record_in}
use Rattle.sync_flags.specs.Flags.{flag_of, flag_value}
use Rattle.sync_flags.specs.Writes.{MayWrite}
use Rattle.sync_flags.proofs.HeapStores.{heap_bit_may, heap_store_may}
use Rattle.station.specs.Stations.{HoldsNoRegister, NoCallOpen, StationAt}
use Rattle.station.proofs.HeapFacts.{set_call}
use Rattle.station.proofs.StationLemmas.{free_after_heap}
use Rattle.station.proofs.stations.Station.set.Goals as goal

may_write : (seat : Seat) (rec : Record) (r : ℕ) (f : FlagPlace) (bit : Option ℕ) (set : Bool) → IsSetup seat.setup → r < seat.setup.nue → 225 ≤ f.line
    → leaves_heap rec.stage ≡ true → HoldsNoRegister rec → MayWrite seat rec (flag_of seat.setup r f) bit set
may_write seat rec r f None set valid lt high leaves none = heap_store_may seat rec r f (flag_value set) valid lt high leaves
may_write seat rec r f (Some b) set valid lt high leaves none =
    heap_bit_may seat rec r f b set valid lt high leaves (ap (λ (o : Option FlagWords). is_none o) (none (host_of seat.setup.hosts r)))

pub flag_write-requires-clause-permitted : goal.flag_write-requires-clause-permitted
flag_write-requires-clause-permitted g c =
    let s = g.P.Port.sight c.args.port.now in
    may_write s.seat (record_in s) c.args.at c.args.flag c.args.flag.bit c.args.value c.known.ensures.valid c.requires.below c.requires.heap
    (ap leaves_heap c.requires.free.messages.between.stage) c.requires.free.registers

pub returns-clause-free : goal.returns-clause-free
returns-clause-free g c =
    let s = g.P.Port.sight c.args.port.now in
    let free = subst (λ (a : StationAt). NoCallOpen s a) (sym c.self.view_is) c.requires.free in
    let call = set_call s.seat c.known.ensures.valid c.args.at c.requires.below s _ c.self.inside.core _ refl
    (ap leaves_heap free.messages.between.stage) free.registers c.args.flag c.requires.heap c.flag_write.ensures.empty c.args.value c.self.inside.polls c.args.flag.bit c.flag_write.result c.flag_write.ensures.writes in
    free_after_heap _ free call.seat_is call.alone call.empty

pub returns-clause-calls : goal.returns-clause-calls
returns-clause-calls g c =
    let s = g.P.Port.sight c.args.port.now in
    let free = subst (λ (a : StationAt). NoCallOpen s a) (sym c.self.view_is) c.requires.free in
    (set_call s.seat c.known.ensures.valid c.args.at c.requires.below s _ c.self.inside.core _ refl
    (ap leaves_heap free.messages.between.stage) free.registers c.args.flag c.requires.heap c.flag_write.ensures.empty c.args.value c.self.inside.polls c.args.flag.bit c.flag_write.result c.flag_write.ensures.writes).alone.calls

-- Names the goal, so that the prover rejects a wrong body at once, without a search.
pub returns-clause-writes : goal.returns-clause-writes
returns-clause-writes g c = search rules

pub returns-clause-stalls : goal.returns-clause-stalls
returns-clause-stalls g c = search rules
