use Rattle.std.proofs.Common.{◌≡◌, ℕ, ◌<◌, true}
use Rattle.call_tap.specs.Planned.{has_room_for}
use Rattle.script_machine.specs.CallLists.{calls_of}
use Rattle.log_run.proofs.rooms.has_room.Given as goal

abbrev pub invariant-loop-number : goal.invariant-loop-number
invariant-loop-number l = (rank : ℕ) → rank < l.number → has_room_for (calls_of l.scripts rank) ≡ true
