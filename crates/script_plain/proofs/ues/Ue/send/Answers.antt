use Rattle.std.proofs.Common.{◌∙◌, ap, subst, sym}
use Rattle.script_plain.specs.Code.{HasLength, HasSent, IsAtSend}
use Rattle.plain_meaning.specs.Kept.{reckoned_at}
use Rattle.script_machine.specs.Local.{Local, local_next}
use Rattle.script_machine.specs.Machine.{MachineView}
use Rattle.plain_meaning.proofs.ProgramLengths.LengthPaths.{fits_next}
use Rattle.script_plain.proofs.CodeSteps.UeLaws.{send_passable, sent_as, sent_long}
use Rattle.script_plain.proofs.CodeSteps.UeViews.{of_shown, passed_fits, to_shown}
use Rattle.script_plain.proofs.ues.Ue.send.Goals as goal

pub pass-requires : goal.pass-requires
pass-requires c =
    let u = c.self.inside.machine.local in
    send_passable (local_next u) (of_shown u c.args.self.now c.self.view_is IsAtSend c.requires)

pub invariant_of-self : goal.invariant_of-self
invariant_of-self c =
    let m = c.self.inside.machine in
    let at = of_shown m.local c.args.self.now c.self.view_is IsAtSend c.requires in
    passed_fits m c.pass.new.self c.self.invariant (send_passable (local_next m.local) at) c.pass.ensures

pub returns-clause-same : goal.returns-clause-same
returns-clause-same c =
    let u = c.self.inside.machine.local in
    let at = of_shown u c.args.self.now c.self.view_is IsAtSend c.requires in
    let same = c.in_ok-bytes.ensures ∙ c.sent.ensures.same in
    let Q : Local → Type 0 = λ v. HasSent (local_next u) c.in_ok-bytes.bytes v in
    to_shown u c.args.self.now c.self.view_is (λ x. HasSent x c.in_ok-bytes.bytes c.pass.new.self.local)
    (subst Q (sym (ap (λ (v : MachineView). v.local) c.pass.ensures)) (sent_as (local_next u) u c.in_ok-bytes.bytes at same))

pub returns-clause-long : goal.returns-clause-long
returns-clause-long c =
    let m = c.self.inside.machine in
    let at = of_shown m.local c.args.self.now c.self.view_is IsAtSend c.requires in
    let same = c.in_ok-bytes.ensures ∙ c.sent.ensures.same in
    let had = reckoned_at m.script m.rank in
    to_shown m.local c.args.self.now c.self.view_is (λ x. HasLength x c.in_ok-bytes.bytes)
    (sent_long had (local_next m.local) c.in_ok-bytes.bytes (fits_next had m.local c.self.invariant) at same)
