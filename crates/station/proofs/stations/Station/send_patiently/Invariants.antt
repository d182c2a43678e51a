use Rattle.std.proofs.Common.{◌≡◌, ◌≤◌, [], ◌∷◌, length}
use Rattle.scc_base.specs.Calls.{Send}
use Rattle.scc_base.specs.Heads.{plain_head}
use Rattle.scc_proto.specs.Ports.{record_in}
use Rattle.send_recv.specs.Calling.{SendStalled}
use Rattle.send_recv.specs.Sending.{send_call}
use Rattle.station.specs.Calls.{at_send, in_send}
use Rattle.station.specs.Patience.{AfterStalls, SendStalls}
use Rattle.station.specs.Stations.{IsInSend, KeepsHeap}
use Rattle.station.proofs.stations.Station.send_patiently.Given as goal

abbrev pub invariant-rounds : goal.invariant-rounds
invariant-rounds g l = record {
  stands : IsInSend (g.P.Port.sight l.port) l.self l.stall.op l.bytes;
  calls : (record_in (g.P.Port.sight l.port)).calls ≡ (record_in (g.P.Port.sight l.fn.port)).calls;
  owes : send_call l.stall.op l.bytes ≡ Send l.fn.to (plain_head (length l.bytes)) l.bytes ∷ [];
  few : l.round ≤ l.fn.rounds;
  polls : l.stall.polls ≡ l.fn.self.polls;
  stalled : AfterStalls (SendStalls l.fn.self.polls) (at_send (g.P.Port.sight l.fn.port) l.fn.self l.fn.to l.bytes) l.round
      (λ last. SendStalled last l.fn.self.polls (in_send (g.P.Port.sight l.port) l.self l.stall.op l.bytes) l.stall.spot);
  seat : (g.P.Port.sight l.port).seat ≡ (g.P.Port.sight l.fn.port).seat;
  same : KeepsHeap l.fn.self l.self;
}
