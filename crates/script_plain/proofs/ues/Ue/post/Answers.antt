use Rattle.std.proofs.Common.{◌∙◌, ap, subst, sym}
use Rattle.script_machine.specs.declared.posts.Posted.{Posted}
use Rattle.script_plain.specs.Code.{HasPosted, IsAtPost}
use Rattle.plain_meaning.specs.Kept.{reckoned_at}
use Rattle.script_machine.specs.Local.{Local, local_next}
use Rattle.script_machine.specs.Machine.{MachineView}
use Rattle.plain_meaning.proofs.ProgramLengths.LengthPaths.{fits_next}
use Rattle.script_plain.proofs.CodeSteps.UeLaws.{post_even, post_passable, posted_as}
use Rattle.script_plain.proofs.CodeSteps.UeViews.{of_shown, passed_fits, to_shown}
use Rattle.script_plain.proofs.ues.Ue.post.Goals as goal

pub pass-requires : goal.pass-requires
pass-requires c =
    let u = c.self.inside.machine.local in
    post_passable (local_next u) (of_shown u c.args.self.now c.self.view_is IsAtPost c.requires)

pub of-requires : goal.of-requires
of-requires c =
    let m = c.self.inside.machine in
    let same = c.in_ok-bytes.ensures ∙ c.sent.ensures.same in
    let called = sym c.post.ensures ∙ c.in-Some.is in
    let had = reckoned_at m.script m.rank in
    post_even had (local_next m.local) c.in-Some.post c.in_ok-bytes.bytes (fits_next had m.local c.self.invariant) called same

pub invariant_of-self : goal.invariant_of-self
invariant_of-self c =
    let m = c.self.inside.machine in
    let at = of_shown m.local c.args.self.now c.self.view_is IsAtPost c.requires in
    passed_fits m c.pass.new.self c.self.invariant (post_passable (local_next m.local) at) c.pass.ensures

pub returns : goal.returns
returns c =
    let u = c.self.inside.machine.local in
    let same = c.in_ok-bytes.ensures ∙ c.sent.ensures.same in
    let called = sym c.post.ensures ∙ c.in-Some.is in
    let message : Posted = record { to = c.in-Some.post.to; head = c.in-Some.post.head; bytes = c.in_ok-bytes.bytes; line = c.in-Some.post.line } in
    let O : Posted → Type 0 = λ p. HasPosted (local_next c.args.self.now) p c.pass.new.self.local in
    let Q : Local → Type 0 = λ v. HasPosted (local_next u) message v in
    subst O (sym c.of.ensures)
    (to_shown u c.args.self.now c.self.view_is (λ x. HasPosted x message c.pass.new.self.local)
    (subst Q (sym (ap (λ (v : MachineView). v.local) c.pass.ensures))
    (posted_as (local_next u) u c.in-Some.post c.in_ok-bytes.bytes called same)))
