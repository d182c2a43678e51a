use Rattle.std.proofs.Common.{◌≡◌, ◌∙◌, ap, subst, sym}
use Rattle.plain_meaning.specs.Kept.{Fits, reckoned_at}
use Rattle.script_machine.specs.Local.{local_next}
use Rattle.script_machine.specs.Machine.{MachineView}
use Rattle.script_machine.specs.Next.{is_going}
use Rattle.script_machine.specs.Next.Next.{Goes}
use Rattle.plain_meaning.proofs.ProgramLengths.LengthPaths.{fits_next}
use Rattle.script_plain.proofs.CodeSteps.UeLaws.{fits_went, went_goes}
use Rattle.script_plain.proofs.ues.Ue.go.Goals as goal

pub go-requires : goal.go-requires
go-requires c =
    let m = c.self.inside.machine in
    let n = local_next m.local in
    let here : n ≡ local_next c.args.self.now = ap local_next c.self.view_is in
    ap is_going here ∙ c.requires

pub invariant_of-self : goal.invariant_of-self
invariant_of-self c =
    let m = c.self.inside.machine in
    let n = local_next m.local in
    let here : n ≡ local_next c.args.self.now = ap local_next c.self.view_is in
    let had = reckoned_at m.script m.rank in
    let fits = fits_next had m.local c.self.invariant in
    let P : MachineView → Type 0 = λ v. Fits (reckoned_at v.script v.rank) v.local in
    subst P (sym c.go.ensures) (fits_went had n m.local fits (ap is_going here ∙ c.requires))

pub returns : goal.returns
returns c =
    let m = c.self.inside.machine in
    let n = local_next m.local in
    let here : n ≡ local_next c.args.self.now = ap local_next c.self.view_is in
    sym here ∙ went_goes n m.local (ap is_going here ∙ c.requires) ∙ ap Goes (sym (ap (λ (v : MachineView). v.local) c.go.ensures))
