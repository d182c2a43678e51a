use Rattle.std.proofs.Common.{◌∙◌, ap, sym}
use Rattle.script_rules.specs.Script.{rules_of}
use Rattle.script_machine.specs.Program.{prims_in, program_of}
use Rattle.script_machine.specs.Walk.{CourseView, WalkView}
use Rattle.script_machine.proofs.Walks.MarkLaws.{program_is}
use Rattle.script_machine.proofs.walk.Walk.restart.Goals as goal

pub restart-requires-clause-ranks : goal.restart-requires-clause-ranks
restart-requires-clause-ranks c =
    ap (λ (w : WalkView). w.setup.nue) c.self.view_is ∙ c.requires.ranks ∙ sym (ap (λ (w : WalkView). w.script.nue) c.self.view_is)

pub restart-requires-clause-communicators : goal.restart-requires-clause-communicators
restart-requires-clause-communicators c =
    ap (λ (w : WalkView). w.setup.comms) c.self.view_is ∙ c.requires.communicators ∙ sym (ap (λ (w : WalkView). rules_of w.script.items) c.self.view_is)

pub returns : goal.returns
returns c =
    let course = c.self.inside.course in
    let again = c.restart.ensures in
    let passed = c.pass_ends-first.ensures in
    let script = passed.script ∙ ap (λ (w : CourseView). w.script) again in
    let setup = passed.setup ∙ ap (λ (w : CourseView). w.setup) again in
    let rank = passed.rank ∙ ap (λ (w : CourseView). w.rank) again in
    let left = passed.same ∙ ap (λ (w : CourseView). prims_in w.left) again ∙ program_is course.script course.rank in
    (λ i. record { script = script i; setup = setup i; rank = rank i; left = left i })
    ∙ ap (λ (w : WalkView). record w { left = program_of w.script w.rank }) c.self.view_is
