use Rattle.std.proofs.Common.{◌≡◌, ℕ, ◌≤◌, List, [], ◌∷◌}
use Rattle.scc_base.specs.Calls.{Recv}
use Rattle.scc_base.specs.Heads.{plain_head}
use Rattle.scc_proto.specs.Ports.{record_in}
use Rattle.send_recv.specs.Calling.{RecvStalled}
use Rattle.send_recv.specs.Receiving.{recv_call}
use Rattle.station.specs.Calls.{at_receive, in_receive}
use Rattle.station.specs.Patience.{AfterStalls, RecvStalls}
use Rattle.station.specs.Stations.{IsInReceive}
use Rattle.ping_pong.proofs.players.get.Given as goal

abbrev pub invariant-rounds : goal.invariant-rounds
invariant-rounds g l = record {
  stands : IsInReceive (g.P.Port.sight l.port) l.station l.stall.op l.ball;
  calls : (record_in (g.P.Port.sight l.port)).calls ≡ (record_in (g.P.Port.sight l.fn.port)).calls;
  owes : (bytes : List ℕ) → recv_call l.stall.op bytes ≡ Recv l.fn.from (plain_head 4) bytes ∷ [];
  few : l.round ≤ 1000;
  stalled : AfterStalls (RecvStalls l.fn.station.polls) (at_receive (g.P.Port.sight l.fn.port) l.fn.station l.fn.from l.fn.ball) l.round
      (λ last. RecvStalled last l.fn.station.polls (in_receive (g.P.Port.sight l.port) l.station l.stall.op l.ball) l.stall.spot);
  polls : l.stall.polls ≡ l.fn.station.polls;
  seat : (g.P.Port.sight l.port).seat ≡ (g.P.Port.sight l.fn.port).seat;
  same : l.station.polls ≡ l.fn.station.polls;
}
