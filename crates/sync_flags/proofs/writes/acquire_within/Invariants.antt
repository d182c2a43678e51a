use Rattle.std.proofs.Common.{◌≡◌}
use Rattle.scc_proto.specs.Ports.{Did, record_in}
use Rattle.put_get.specs.Cores.{MadeSteps}
use Rattle.sync_flags.specs.Writes.{failed_takes}
use Rattle.sync_flags.proofs.writes.acquire_within.Given as goal

abbrev pub invariant-loop : goal.invariant-loop
invariant-loop g l = record {
  did : Did (g.P.Port.sight l.fn.port) (failed_takes l.c l.counter) (g.P.Port.sight l.port);
  same : record_in (g.P.Port.sight l.port) ≡ record_in (g.P.Port.sight l.fn.port);
  steps : MadeSteps g.P.Port.stepped (g.P.Port.sight l.fn.port) (g.P.Port.sight l.port);
}
