use Rattle.std.proofs.Common.{◌≡◌, ◌∙◌, ℕ, List, ap, length, subst, sym}
use Rattle.script_plain.specs.Code.{HasTaken, IsAtReceive}
use Rattle.plain_meaning.specs.Kept.{Fits, reckoned_at}
use Rattle.script_machine.specs.Local.{Local, local_next}
use Rattle.script_machine.specs.Machine.{MachineView}
use Rattle.script_machine.specs.Moves.{length_asked}
use Rattle.script_machine.specs.Next.{Next}
use Rattle.plain_meaning.proofs.ProgramLengths.LengthPaths.{fits_next}
use Rattle.script_plain.proofs.CodeSteps.UeLaws.{fits_taken, receiving, taken_as}
use Rattle.script_plain.proofs.ues.Ue.receive.Goals as goal

pub receive-requires-clause-at_receive : goal.receive-requires-clause-at_receive
receive-requires-clause-at_receive c =
    let m = c.self.inside.machine in
    let n = local_next m.local in
    let here : n ≡ local_next c.args.self.now = ap local_next c.self.view_is in
    let at = subst IsAtReceive (sym here) c.requires.at_receive in
    receiving n at

pub receive-requires-clause-long : goal.receive-requires-clause-long
receive-requires-clause-long c =
    let m = c.self.inside.machine in
    let n = local_next m.local in
    let here : n ≡ local_next c.args.self.now = ap local_next c.self.view_is in
    let long = ap length c.as_slice.ensures ∙ c.requires.long ∙ ap length_asked (sym here) in
    long

pub invariant_of-self : goal.invariant_of-self
invariant_of-self c =
    let m = c.self.inside.machine in
    let n = local_next m.local in
    let here : n ≡ local_next c.args.self.now = ap local_next c.self.view_is in
    let at = subst IsAtReceive (sym here) c.requires.at_receive in
    let long = ap length c.as_slice.ensures ∙ c.requires.long ∙ ap length_asked (sym here) in
    let had = reckoned_at m.script m.rank in
    let fits = fits_next had m.local c.self.invariant in
    let P : MachineView → Type 0 = λ v. Fits (reckoned_at v.script v.rank) v.local in
    subst P (sym c.receive.ensures) (fits_taken had n m.local c.as_slice.result.now fits (receiving n at) long)

pub returns : goal.returns
returns c =
    let m = c.self.inside.machine in
    let n = local_next m.local in
    let here : n ≡ local_next c.args.self.now = ap local_next c.self.view_is in
    let at = subst IsAtReceive (sym here) c.requires.at_receive in
    let Q : Local → Type 0 = λ u. HasTaken n c.as_slice.result.now u in
    let R : Next Local → Type 0 = λ x. HasTaken x c.as_slice.result.now c.receive.new.self.local in
    let S : List ℕ → Type 0 = λ b. HasTaken (local_next c.args.self.now) b c.receive.new.self.local in
    subst S c.as_slice.ensures (subst R here (subst Q (sym (ap (λ (v : MachineView). v.local) c.receive.ensures)) (taken_as n m.local c.as_slice.result.now at)))
