use Rattle.std.proofs.Common.{◌≡◌, None}
use Rattle.put_get.specs.Cores.{MadeSteps}
use Rattle.sync_flags.specs.Flags.{flag_of}
use Rattle.sync_flags.specs.Looks.{LooksFailed}
use Rattle.sync_flags.proofs.looks.wait_until.Given as goal

abbrev pub invariant-loop : goal.invariant-loop
invariant-loop g l = record {
  looked : LooksFailed (g.P.Port.sight l.fn.port) l.fn.core (flag_of (g.P.Port.sight l.fn.port).seat.setup (g.P.Port.sight l.fn.port).seat.rank l.f) l.f.bit l.want l.counter (g.P.Port.sight l.port) l.core;
  seat : (g.P.Port.sight l.port).seat ≡ (g.P.Port.sight l.fn.port).seat;
  empty : l.core.out ≡ None;
  steps : MadeSteps g.P.Port.stepped (g.P.Port.sight l.fn.port) (g.P.Port.sight l.port);
}
