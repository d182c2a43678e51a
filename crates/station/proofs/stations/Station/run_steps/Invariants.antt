use Rattle.std.proofs.Common.{◌≡◌, ◌-◌, length}
use Rattle.station.specs.Calls.{OnlyMessages}
use Rattle.station.specs.Groups.{GroupStart, IsInGroup, held_in, in_group_call}
use Rattle.station.specs.Stations.{KeepsHeap}
use Rattle.station.proofs.stations.Station.run_steps.Given as goal

abbrev pub invariant-walk : goal.invariant-walk
invariant-walk g l = record {
  stands : (start : GroupStart) → IsInGroup start (in_group_call (g.P.Port.sight l.fn.port) l.fn.self l.fn.op l.input (held_in l.fn.output l.fn.work))
      → IsInGroup start (in_group_call (g.P.Port.sight l.port) l.self (record { coll = l.fn.op.coll; folding = l.fn.op.folding; at = l.at; hand = l.hand }) l.input (held_in l.output l.work));
  seat : (g.P.Port.sight l.port).seat ≡ (g.P.Port.sight l.fn.port).seat;
  only : OnlyMessages (g.P.Port.sight l.fn.port) (g.P.Port.sight l.port);
  same : KeepsHeap l.fn.self l.self;
  output : length l.output ≡ length l.fn.output;
  work : length l.work ≡ length l.fn.work;
}

abbrev pub decreases-walk : goal.decreases-walk
decreases-walk g l = l.count - l.at
