use Rattle.std.proofs.Common.{◌∙◌, ℕ, ap, arith, refl, sym}
use Rattle.script_machine.specs.Rooms.{ReckoningView, greater}
use Rattle.script_machine.proofs.ProgramLengths.RoomLaws.{more_within, wider_by, within_by}
use Rattle.script_machine.proofs.reckoning.Reckoning.print.Goals as goal

pub returns-clause-wider : goal.returns-clause-wider
returns-clause-wider c =
    let most = c.self.inside.most in
    let items = c.greater_count-more_items.ensures ∙ ap (λ (n : ℕ). greater n c.in_ok-items.items) c.items-2.ensures in
    let printed = c.greater_count-more_printed.ensures ∙ ap (λ (n : ℕ). greater n c.in_ok-printed.printed) c.printed-2.ensures in
    let more = c.print-2.ensures ∙ (λ i. record most { items = items i; printed = printed i }) in
    wider_by c.args.self.now.most (record { lengths = most; spare = c.self.inside.spare }) c.print-2.new.self c.self.inside.spare
    (ap (λ (r : ReckoningView). r.most) (sym c.self.view_is)) (omega arith)
    (within_by most (record most { items = greater most.items c.in_ok-items.items; printed = greater most.printed c.in_ok-printed.printed }) most c.print-2.new.self refl more
    (more_within most 0 0 c.in_ok-items.items c.in_ok-printed.printed).1.1)
