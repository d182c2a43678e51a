use Rattle.std.proofs.Common.{◌≡◌, ◌++◌, length, take}
use Rattle.scc_proto.specs.Ports.{record_in}
use Rattle.station.specs.Stations.{NoCallOpen}
use Rattle.ping_pong.specs.Rallies.{serves}
use Rattle.ping_pong.proofs.players.serve.Given as goal

abbrev pub invariant-rounds : goal.invariant-rounds
invariant-rounds g l = record {
  free : NoCallOpen (g.P.Port.sight l.port) l.station;
  polls : l.station.polls ≡ l.fn.station.polls;
  calls : (record_in (g.P.Port.sight l.port)).calls ≡ (record_in (g.P.Port.sight l.fn.port)).calls ++ serves (take l.round l.balls) (take l.round l.back);
  as_many : length l.back ≡ length l.balls;
  seat : (g.P.Port.sight l.port).seat ≡ (g.P.Port.sight l.fn.port).seat;
}
