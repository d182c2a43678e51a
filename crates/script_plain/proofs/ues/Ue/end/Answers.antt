use Rattle.std.proofs.Common.{◌≡◌, ◌∙◌, ap, sym}
use Rattle.script_machine.specs.Local.{end_of, local_next}
use Rattle.script_plain.proofs.ues.Ue.end.Goals as goal

pub returns : goal.returns
returns c =
    let m = c.self.inside.machine in
    let n = local_next m.local in
    let here : n ≡ local_next c.args.self.now = ap local_next c.self.view_is in
    c.end.ensures c.args.slot.now (sym c.in_slot.ensures) ∙ ap (end_of c.args.slot.now) c.self.view_is
