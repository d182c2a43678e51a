use Rattle.std.proofs.Common.{◌≡◌, ◌∙◌, ap, subst, sym}
use Rattle.plain_meaning.specs.Kept.{Fits, reckoned_at}
use Rattle.script_machine.specs.Local.{local_next}
use Rattle.script_machine.specs.Machine.{MachineView}
use Rattle.script_machine.specs.Next.{is_at_barrier, past_barrier}
use Rattle.plain_meaning.proofs.ProgramLengths.LengthPaths.{fits_next}
use Rattle.script_plain.proofs.CodeSteps.UeLaws.{barrier_passable, barrier_past, fits_passed}
use Rattle.script_plain.proofs.ues.Ue.pass.Goals as goal

pub pass-requires : goal.pass-requires
pass-requires c =
    let m = c.self.inside.machine in
    let n = local_next m.local in
    let here : n ≡ local_next c.args.self.now = ap local_next c.self.view_is in
    let at = ap (is_at_barrier c.args.comm) here ∙ c.requires in
    barrier_passable c.args.comm n at

pub invariant_of-self : goal.invariant_of-self
invariant_of-self c =
    let m = c.self.inside.machine in
    let n = local_next m.local in
    let here : n ≡ local_next c.args.self.now = ap local_next c.self.view_is in
    let at = ap (is_at_barrier c.args.comm) here ∙ c.requires in
    let had = reckoned_at m.script m.rank in
    let fits = fits_next had m.local c.self.invariant in
    let P : MachineView → Type 0 = λ v. Fits (reckoned_at v.script v.rank) v.local in
    subst P (sym c.pass.ensures) (fits_passed had n m.local fits (barrier_passable c.args.comm n at))

pub returns : goal.returns
returns c =
    let m = c.self.inside.machine in
    let n = local_next m.local in
    let here : n ≡ local_next c.args.self.now = ap local_next c.self.view_is in
    let at = ap (is_at_barrier c.args.comm) here ∙ c.requires in
    ap (λ (v : MachineView). v.local) c.pass.ensures ∙ barrier_past c.args.comm n m.local at ∙ (λ i. past_barrier (here i) (c.self.view_is i))
