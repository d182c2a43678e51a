use Rattle.std.proofs.Common.{◌≡◌, ap, subst, sym}
use Rattle.plain_meaning.specs.Kept.{Fits, reckoned_at}
use Rattle.script_machine.specs.Local.{local_next}
use Rattle.script_machine.specs.Machine.{MachineView}
use Rattle.script_plain.proofs.CodeSteps.UeLaws.{fits_end}
use Rattle.script_plain.proofs.ues.Ue.take_items.Goals as goal

pub invariant_of-self : goal.invariant_of-self
invariant_of-self c =
    let m = c.self.inside.machine in
    let n = local_next m.local in
    let here : n ≡ local_next c.args.self.now = ap local_next c.self.view_is in
    let had = reckoned_at m.script m.rank in
    let P : MachineView → Type 0 = λ v. Fits (reckoned_at v.script v.rank) v.local in
    subst P (sym c.take_items.ensures.ends) (fits_end had m.local c.self.invariant)
