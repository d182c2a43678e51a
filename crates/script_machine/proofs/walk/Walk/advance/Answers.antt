use Rattle.std.proofs.Common.{◌∙◌, ap, drop, rules}
use Rattle.script_machine.specs.Program.{prims_in}
use Rattle.script_machine.specs.Walk.{CourseView, WalkView}
use Rattle.script_machine.proofs.Walks.MarkLaws.{more_prims}
use Rattle.script_machine.proofs.walk.Walk.advance.Goals as goal

pub returns : goal.returns
returns c =
    let course = c.self.inside.course in
    let gone = c.advance.ensures in
    let passed = c.pass_ends-next.ensures in
    let script = passed.script ∙ ap (λ (w : CourseView). w.script) gone in
    let setup = passed.setup ∙ ap (λ (w : CourseView). w.setup) gone in
    let rank = passed.rank ∙ ap (λ (w : CourseView). w.rank) gone in
    let left = passed.same ∙ ap (λ (w : CourseView). prims_in w.left) gone ∙ more_prims course.left c.self.invariant.stands in
    (λ i. record { script = script i; setup = setup i; rank = rank i; left = left i })
    ∙ ap (λ (w : WalkView). record w { left = drop 1 w.left }) c.self.view_is

-- Names the goal, so that the prover rejects a wrong body at once, without a search.
pub invariant_of-self : goal.invariant_of-self
invariant_of-self c = search rules
