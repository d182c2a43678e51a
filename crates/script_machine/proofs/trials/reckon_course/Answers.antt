use Rattle.std.proofs.Common.{refl, sym}
use Rattle.script_machine.specs.Program.{prims_in}
use Rattle.script_machine.specs.Rooms.{nothing_held, rooms_of}
use Rattle.script_machine.proofs.ProgramLengths.RoomLaws.{held_by, wider_same}
use Rattle.script_machine.proofs.trials.reckon_course.Goals as goal

pub returns-clause-holds : goal.returns-clause-holds
returns-clause-holds c =
    let left = c.args.course.now.left in
    let none = c.in_ok-reckoning.reckoning in
    let all = c.reckon_all.new.reckoning in
    held_by all.most (rooms_of c.needs.result) none.lengths (nothing_held c.args.count) (prims_in left) (prims_in left) c.needs.ensures (sym c.in_ok-reckoning.ensures)
    refl (c.in_ok-reckon_all.ensures.holds all.most (wider_same all.most) c.within_law.ensures)
