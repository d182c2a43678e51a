use Rattle.script_machine.specs.Rooms.{nothing_held}
use Rattle.script_machine.proofs.ProgramLengths.RoomLaws.{within_by, within_same}
use Rattle.script_machine.proofs.reckoning.Reckoning.new.Goals as goal

pub invariant_of-result : goal.invariant_of-result
invariant_of-result c =
    within_by (nothing_held c.args.count) (nothing_held c.args.count) c.in_ok-here.here c.in_ok-most.most c.in_ok-here.ensures c.in_ok-most.ensures (within_same (nothing_held c.args.count))
