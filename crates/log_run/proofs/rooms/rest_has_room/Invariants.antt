use Rattle.std.proofs.Common.{◌≤◌, length}
use Rattle.script_machine.specs.CallLists.{calls_from}
use Rattle.log_run.proofs.RoomLaws.{AreCounted}
use Rattle.log_run.proofs.rooms.rest_has_room.Given as goal

abbrev pub invariant-loop-prim : goal.invariant-loop-prim
invariant-loop-prim l = record {
  few : l.tally.calls ≤ 10000;
  small : l.tally.bytes ≤ 262144;
  counted : AreCounted (calls_from l.fn.lengths l.fn.walk.left) l.tally.calls l.tally.bytes (calls_from l.lengths l.walk.left);
}

abbrev pub decreases-loop-prim : goal.decreases-loop-prim
decreases-loop-prim l = length l.walk.left
