use Rattle.std.proofs.Common.{◌≡◌}
use Rattle.station.specs.Groups.{GroupStart, IsInGroup, held_in, in_group_call, op_in}
use Rattle.station_rows.proofs.groups_of_three.go_on.Given as goal

abbrev pub invariant-rounds : goal.invariant-rounds
invariant-rounds g l = record {
  stands : (start : GroupStart) × IsInGroup start (in_group_call (g.P.Port.sight l.port) l.station (op_in l.stop) l.input (held_in l.output l.work));
  seat : (g.P.Port.sight l.port).seat ≡ (g.P.Port.sight l.fn.port).seat;
}
