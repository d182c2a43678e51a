use Rattle.std.proofs.Common.{◌∙◌, ap, slice_get, sym}
use Rattle.script_machine.specs.Walk.{CourseView, is_end}
use Rattle.script_machine.proofs.Walks.FlatLaws.{ends_at, ends_within, passes_left}
use Rattle.script_machine.proofs.course.Course.passes.Goals as goal

pub flat_passes-requires : goal.flat_passes-requires
flat_passes-requires c =
    let walk = c.self.inside in
    let items = walk.scripts.now.items in
    let next = ap (λ (w : CourseView). is_end (slice_get w.left 0)) c.self.view_is ∙ c.requires in
    ends_within walk.rank items walk.place walk.step (ends_at walk.setup walk.rank items walk.place walk.step walk.repeats.items c.self.invariant.0.stands next)

pub returns : goal.returns
returns c =
    let walk = c.self.inside in
    let items = walk.scripts.now.items in
    let next = ap (λ (w : CourseView). is_end (slice_get w.left 0)) c.self.view_is ∙ c.requires in
    passes_left walk.setup walk.rank items walk.place walk.step walk.repeats.items c.args.self.now.left c.flat_passes.result (ap (λ (w : CourseView). w.left) (sym c.self.view_is))
    (ends_at walk.setup walk.rank items walk.place walk.step walk.repeats.items c.self.invariant.0.stands next) c.flat_passes.ensures
