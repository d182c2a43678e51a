use Rattle.std.proofs.Common.{ap, subst, sym}
use Rattle.script_plain.specs.Code.{HasRefused, IsAtReceive}
use Rattle.plain_meaning.specs.Kept.{reckoned_at}
use Rattle.script_machine.specs.Local.{Local, local_next}
use Rattle.script_machine.specs.Machine.{MachineView}
use Rattle.script_machine.specs.Moves.{after_refusal}
use Rattle.plain_meaning.proofs.ProgramLengths.LengthPaths.{fits_next}
use Rattle.script_plain.proofs.CodeSteps.UeLaws.{fits_refused, receiving, refused_as}
use Rattle.script_plain.proofs.CodeSteps.UeViews.{fits_after, of_shown, to_shown}
use Rattle.script_plain.proofs.ues.Ue.refuse.Goals as goal

pub refuse-requires : goal.refuse-requires
refuse-requires c =
    let u = c.self.inside.machine.local in
    receiving (local_next u) (of_shown u c.args.self.now c.self.view_is IsAtReceive c.requires)

pub invariant_of-self : goal.invariant_of-self
invariant_of-self c =
    let m = c.self.inside.machine in
    let n = local_next m.local in
    let at = of_shown m.local c.args.self.now c.self.view_is IsAtReceive c.requires in
    let had = reckoned_at m.script m.rank in
    fits_after m c.refuse.new.self (after_refusal n c.args.sent m.local) c.refuse.ensures
    (fits_refused had n m.local c.args.sent (fits_next had m.local c.self.invariant) (receiving n at))

pub returns : goal.returns
returns c =
    let u = c.self.inside.machine.local in
    let at = of_shown u c.args.self.now c.self.view_is IsAtReceive c.requires in
    let Q : Local → Type 0 = λ v. HasRefused (local_next u) c.args.sent v in
    to_shown u c.args.self.now c.self.view_is (λ x. HasRefused x c.args.sent c.refuse.new.self.local)
    (subst Q (sym (ap (λ (v : MachineView). v.local) c.refuse.ensures)) (refused_as (local_next u) u c.args.sent at))
