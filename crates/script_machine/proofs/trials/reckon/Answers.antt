use Rattle.std.proofs.Common.{◌≡◌, ◌∙◌, List, ap, subst, sym}
use Rattle.script_rules.specs.Script.{rules_of}
use Rattle.script_machine.specs.Passes.{walk_of}
use Rattle.script_machine.specs.Program.{Prim, program_of}
use Rattle.script_machine.specs.Rooms.{AreWithin, nothing_held, rooms_of}
use Rattle.script_machine.specs.Walk.{CourseView, WalkView}
use Rattle.script_machine.proofs.Walks.MarkLaws.{program_is}
use Rattle.script_machine.proofs.trials.reckon.Goals as goal

-- a course that only goes on is of the same script, setup and rank
gone_on : (walk : WalkView) (start end : CourseView) → walk_of start ≡ walk → end ≡ record start { left = end.left } → record (walk_of end) { left = walk.left } ≡ walk
gone_on walk start end of_it goes =
    ap (λ (c : CourseView). record (walk_of c) { left = walk.left }) goes ∙ ap (λ (w : WalkView). record w { left = walk.left }) of_it

pub restart-requires-clause-ranks : goal.restart-requires-clause-ranks
restart-requires-clause-ranks c =
    let same = gone_on c.args.walk c.into_course-course.result c.reckon_course.new.course c.into_course-course.ensures c.in_ok-needs.ensures.same in
    ap (λ (w : WalkView). w.setup.nue) same ∙ c.requires.ranks ∙ sym (ap (λ (w : WalkView). w.script.nue) same)

pub restart-requires-clause-communicators : goal.restart-requires-clause-communicators
restart-requires-clause-communicators c =
    let same = gone_on c.args.walk c.into_course-course.result c.reckon_course.new.course c.into_course-course.ensures c.in_ok-needs.ensures.same in
    ap (λ (w : WalkView). w.setup.comms) same ∙ c.requires.communicators ∙ sym (ap (λ (w : WalkView). rules_of w.script.items) same)

pub returns-clause-holds : goal.returns-clause-holds
returns-clause-holds c =
    subst (λ (l : List Prim). AreWithin (rooms_of c.in_ok-needs.needs) (nothing_held c.args.count) l) (ap (λ (w : WalkView). w.left) c.into_course-course.ensures) c.in_ok-needs.ensures.holds

pub returns-clause-again : goal.returns-clause-again
returns-clause-again c =
    let end = c.reckon_course.new.course in
    let same = gone_on c.args.walk c.into_course-course.result end c.into_course-course.ensures c.in_ok-needs.ensures.same in
    c.of-walk.ensures ∙ ap walk_of c.restart.ensures
    ∙ (λ i. record { script = end.script; setup = end.setup; rank = end.rank; left = program_is end.script end.rank i })
    ∙ ap (λ (w : WalkView). record w { left = program_of w.script w.rank }) same
