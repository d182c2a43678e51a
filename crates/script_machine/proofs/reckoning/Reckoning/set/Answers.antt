use Rattle.std.proofs.Common.{ap, arith, refl, sym}
use Rattle.script_machine.specs.Lengths.{length_of_register, with_register}
use Rattle.script_machine.specs.Rooms.{ReckoningView, greater}
use Rattle.script_machine.proofs.ProgramLengths.RoomLaws.{raised_within, raised_wider, wider_by, within_by}
use Rattle.script_machine.proofs.reckoning.Reckoning.set.Goals as goal

pub invariant_of-self : goal.invariant_of-self
invariant_of-self c =
    let here = c.self.inside.here in
    let most = c.self.inside.most in
    within_by (with_register here c.args.reg c.args.len) (with_register most c.args.reg (greater (length_of_register most c.args.reg) c.args.len)) c.set.new.self c.raise.new.self
    c.set.ensures c.raise.ensures (raised_within here most c.args.reg c.args.len c.self.invariant)

pub returns-clause-wider : goal.returns-clause-wider
returns-clause-wider c =
    let most = c.self.inside.most in
    wider_by c.args.self.now.most (record { lengths = most; spare = c.self.inside.spare }) c.raise.new.self c.self.inside.spare
    (ap (λ (r : ReckoningView). r.most) (sym c.self.view_is)) (omega arith)
    (within_by most (with_register most c.args.reg (greater (length_of_register most c.args.reg) c.args.len)) most c.raise.new.self refl c.raise.ensures (raised_wider most c.self.inside.spare c.args.reg c.args.len).lengths)
