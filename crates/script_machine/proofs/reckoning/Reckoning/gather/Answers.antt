use Rattle.std.proofs.Common.{◌∙◌, ℕ, ap, arith, refl, sym}
use Rattle.script_machine.specs.Rooms.{ReckoningView, greater}
use Rattle.script_machine.proofs.ProgramLengths.RoomLaws.{more_within, wider_by, within_by}
use Rattle.script_machine.proofs.reckoning.Reckoning.gather.Goals as goal

pub returns-clause-wider : goal.returns-clause-wider
returns-clause-wider c =
    let most = c.self.inside.most in
    let more = c.gather-2.ensures ∙ ap (λ (n : ℕ). record most { received = n }) (c.greater-more.ensures ∙ ap (λ (n : ℕ). greater n c.args.len) c.received.ensures) in
    wider_by c.args.self.now.most (record { lengths = most; spare = c.self.inside.spare }) c.gather-2.new.self c.self.inside.spare
    (ap (λ (r : ReckoningView). r.most) (sym c.self.view_is)) (omega arith)
    (within_by most (record most { received = greater most.received c.args.len }) most c.gather-2.new.self refl more (more_within most 0 c.args.len 0 0).1.0)
