use Rattle.std.proofs.Common.{◌∙◌, ap}
use Rattle.script_machine.specs.Program.{prims_in}
use Rattle.script_machine.specs.Walk.{CourseView}
use Rattle.script_machine.proofs.Walks.MarkLaws.{program_is}
use Rattle.script_machine.proofs.walk.Walk.new.Goals as goal

pub returns : goal.returns
returns c =
    let made = c.in_ok-course.ensures in
    let passed = c.pass_ends-next.ensures in
    let script = passed.script ∙ ap (λ (w : CourseView). w.script) made in
    let setup = passed.setup ∙ ap (λ (w : CourseView). w.setup) made in
    let rank = passed.rank ∙ ap (λ (w : CourseView). w.rank) made in
    let left = passed.same ∙ ap (λ (w : CourseView). prims_in w.left) made ∙ program_is c.args.scripts.now c.args.rank in
    λ i. record { script = script i; setup = setup i; rank = rank i; left = left i }
