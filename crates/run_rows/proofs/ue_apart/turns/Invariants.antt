use Rattle.std.proofs.Common.{List}
use Rattle.scc_base.specs.declared.events.Event.{Event}
use Rattle.scc_proto.specs.Ports.{Did}
use Rattle.run_rows.proofs.ue_apart.turns.Given as goal

abbrev pub invariant-loop : goal.invariant-loop
invariant-loop g l = record {
  stands : g.M.Player.stands l.player (g.P.Port.sight l.port).seat.setup (g.P.Port.sight l.port).seat.rank (g.P.Port.sight l.port).events;
  did : (events : List Event) × Did (g.P.Port.sight l.fn.port) events (g.P.Port.sight l.port);
}
