use Rattle.std.proofs.Common.{◌∙◌, ap, sym, subst, List, Option}
use Rattle.script_rules.specs.Script.{rules_of}
use Rattle.script_machine.specs.declared.course.Open.{Open}
use Rattle.script_machine.specs.Program.{Prim, marks_in}
use Rattle.script_machine.specs.Walk.{AreOpenAt, CourseView, left_at}
use Rattle.script_machine.proofs.Walks.DepthLaws.{deep_start}
use Rattle.script_machine.proofs.Walks.IdleLaws.{left-first}
use Rattle.script_machine.proofs.Walks.WalkLaws.{all_left, none_open, marked_by_script}
use Rattle.script_machine.proofs.course.Course.restart.Goals as goal

pub settled-stand-requires-clause-opens : goal.settled-stand-requires-clause-opens
settled-stand-requires-clause-opens c =
    let walk = c.self.inside in
    let P : List Open → Type 0 = λ r. AreOpenAt walk.setup walk.rank walk.scripts.now.items walk.first r in
    subst P (sym c.clear.ensures.items) (none_open walk.setup walk.rank walk.scripts.now.items walk.first)

pub settled-stand-requires-clause-deep : goal.settled-stand-requires-clause-deep
settled-stand-requires-clause-deep c =
    let walk = c.self.inside in
    deep_start walk.rank walk.scripts.now.items walk.first c.clear.new.self.items c.clear.ensures.items

pub returns : goal.returns
returns c =
    let walk = c.self.inside in
    let items = walk.scripts.now.items in
    let ranks = ap (λ (w : CourseView). w.setup.nue) c.self.view_is ∙ c.requires.ranks ∙ sym (ap (λ (w : CourseView). w.script.nue) c.self.view_is) in
    let rules = ap (λ (w : CourseView). w.setup.comms) c.self.view_is ∙ c.requires.communicators ∙ sym (ap (λ (w : CourseView). rules_of w.script.items) c.self.view_is) in
    let left = c.settled-stand.ensures.same ∙ ap (λ (r : List Open). left_at walk.setup walk.rank items walk.first r) c.clear.ensures.items
    ∙ left-first walk.setup walk.rank items walk.first c.self.invariant.1.1.0.0
    ∙ all_left walk.setup walk.rank items ∙ marked_by_script walk.setup walk.rank walk.scripts.now ranks rules in
    ap (λ (l : List (Option Prim)). record { script = walk.scripts.now; setup = walk.setup; rank = walk.rank; left = l }) left
    ∙ ap (λ (w : CourseView). record w { left = marks_in w.script w.rank }) c.self.view_is
