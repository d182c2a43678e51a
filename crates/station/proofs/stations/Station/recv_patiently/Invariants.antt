use Rattle.std.proofs.Common.{◌≡◌, ℕ, ◌≤◌, List, [], ◌∷◌, length}
use Rattle.scc_base.specs.Calls.{Recv}
use Rattle.scc_base.specs.Heads.{plain_head}
use Rattle.scc_proto.specs.Ports.{record_in}
use Rattle.send_recv.specs.Calling.{RecvStalled}
use Rattle.send_recv.specs.Receiving.{recv_call}
use Rattle.station.specs.Calls.{at_receive, in_receive}
use Rattle.station.specs.Patience.{AfterStalls, RecvStalls}
use Rattle.station.specs.Stations.{IsInReceive, KeepsSlot}
use Rattle.station.proofs.stations.Station.recv_patiently.Given as goal

abbrev pub invariant-rounds : goal.invariant-rounds
invariant-rounds g l = record {
  stands : IsInReceive (g.P.Port.sight l.port) l.self l.stall.op l.buffer;
  calls : (record_in (g.P.Port.sight l.port)).calls ≡ (record_in (g.P.Port.sight l.fn.port)).calls;
  owes : (bytes : List ℕ) → recv_call l.stall.op bytes ≡ Recv l.fn.from (plain_head (length l.fn.buffer)) bytes ∷ [];
  few : l.round ≤ l.fn.rounds;
  polls : l.stall.polls ≡ l.fn.self.polls;
  stalled : AfterStalls (RecvStalls l.fn.self.polls) (at_receive (g.P.Port.sight l.fn.port) l.fn.self l.fn.from l.fn.buffer) l.round
      (λ last. RecvStalled last l.fn.self.polls (in_receive (g.P.Port.sight l.port) l.self l.stall.op l.buffer) l.stall.spot);
  seat : (g.P.Port.sight l.port).seat ≡ (g.P.Port.sight l.fn.port).seat;
  same : KeepsSlot l.fn.self l.self;
}
