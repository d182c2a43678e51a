use Rattle.std.proofs.Common.{◌≡◌, ◌≤◌, [], ◌∷◌}
use Rattle.scc_base.specs.Calls.{Bar}
use Rattle.scc_proto.specs.Ports.{record_in}
use Rattle.barrier.specs.Calls.{Stalls}
use Rattle.barrier.specs.Stages.{bar_call}
use Rattle.station.specs.Calls.{at_barrier, after_barrier}
use Rattle.station.specs.Patience.{AfterStalls, BarStalls}
use Rattle.station.specs.Stations.{IsInBarrier, KeepsSlot}
use Rattle.station.specs.Stops.{bar_stop_of}
use Rattle.station.proofs.stations.Station.barrier_patiently.Given as goal

abbrev pub invariant-rounds : goal.invariant-rounds
invariant-rounds g l = record {
  stands : IsInBarrier (g.P.Port.sight l.port) l.self l.stall.op;
  calls : (record_in (g.P.Port.sight l.port)).calls ≡ (record_in (g.P.Port.sight l.fn.port)).calls;
  owes : bar_call l.stall.op ≡ Bar l.comm ∷ [];
  few : l.round ≤ l.fn.rounds;
  stalled : AfterStalls (BarStalls l.fn.self.polls) (at_barrier (g.P.Port.sight l.fn.port) l.fn.self l.comm) l.round
      (λ last. Stalls last l.fn.self.polls (after_barrier (g.P.Port.sight l.port) l.self) (bar_stop_of l.stall));
  seat : (g.P.Port.sight l.port).seat ≡ (g.P.Port.sight l.fn.port).seat;
  same : KeepsSlot l.fn.self l.self;
}
