use Rattle.std.proofs.Common.{ap, arith, sym}
use Rattle.script_machine.specs.Rooms.{ReckoningView}
use Rattle.script_machine.proofs.ProgramLengths.RoomLaws.{greater_old, wider_by, within_same}
use Rattle.script_machine.proofs.reckoning.Reckoning.copy.Goals as goal

pub returns-clause-wider : goal.returns-clause-wider
returns-clause-wider c =
    let most = c.self.inside.most in
    wider_by c.args.self.now.most (record { lengths = most; spare = c.self.inside.spare }) most c.greater-self-inside.result
    (ap (λ (r : ReckoningView). r.most) (sym c.self.view_is)) (omega (arith, greater_old c.self.inside.spare c.args.len, c.greater-self-inside.ensures)) (within_same most)
