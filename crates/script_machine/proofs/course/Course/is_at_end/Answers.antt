use Rattle.std.proofs.Common.{◌∙◌, ap, slice_get}
use Rattle.script_machine.specs.Walk.{CourseView, is_end}
use Rattle.script_machine.proofs.Walks.StandLaws.{end_there}
use Rattle.script_machine.proofs.course.Course.is_at_end.Goals as goal

pub returns : goal.returns
returns c =
    let walk = c.self.inside in
    c.self.invariant.1.1.1.closes_is
    ∙ end_there walk.setup walk.rank walk.scripts.now.items walk.place walk.step walk.repeats.items c.self.invariant.0.stands
    ∙ ap (λ (w : CourseView). is_end (slice_get w.left 0)) c.self.view_is
