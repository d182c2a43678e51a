use Rattle.std.proofs.Common.{◌∙◌, ◌<◌, ap, arith, drop, refl, slice_get, sym}
use Rattle.script_machine.specs.Walk.{CourseView, is_end, left_at}
use Rattle.script_machine.proofs.Walks.FlatLaws.{after_end, deep_last, end_left, ends_at, ends_within, left_out, none_left_out, open_last}
use Rattle.script_machine.proofs.course.Course.leave.Goals as goal

pub flat_passes-requires : goal.flat_passes-requires
flat_passes-requires c =
    let walk = c.self.inside in
    let items = walk.scripts.now.items in
    let next = ap (λ (w : CourseView). is_end (slice_get w.left 0)) c.self.view_is ∙ c.requires in
    ends_within walk.rank items walk.place walk.step (ends_at walk.setup walk.rank items walk.place walk.step walk.repeats.items c.self.invariant.0.stands next)

pub returns-then-flat_passes-eq0-clause-leaves : goal.returns-then-flat_passes-eq0-clause-leaves
returns-then-flat_passes-eq0-clause-leaves c =
    let walk = c.self.inside in
    let items = walk.scripts.now.items in
    let next = ap (λ (w : CourseView). is_end (slice_get w.left 0)) c.self.view_is ∙ c.requires in
    let ends = ends_at walk.setup walk.rank items walk.place walk.step walk.repeats.items c.self.invariant.0.stands next in
    none_left_out c.args.self.now.left (after_end walk.setup walk.rank items walk.place walk.repeats.items)
    (ap (λ (w : CourseView). w.left) (sym c.self.view_is) ∙ end_left walk.setup walk.rank items walk.place walk.step walk.repeats.items ends)

pub invariant_of-self : goal.invariant_of-self
invariant_of-self c =
    let walk = c.self.inside in
    let items = walk.scripts.now.items in
    let some : 0 < c.flat_passes.result = omega arith in
    let front = c.flat_passes.ensures some in (
      record {
        within = c.self.invariant.0.within;
        opens = open_last walk.setup walk.rank items walk.place walk.repeats.items c.end_passes.new.repeats.items c.flat_passes.result front c.end_passes.ensures.left c.self.invariant.0.opens;
        stands = c.self.invariant.0.stands;
      },
      (
        (
          deep_last walk.rank items walk.place walk.repeats.items c.end_passes.new.repeats.items c.flat_passes.result front c.end_passes.ensures.left c.self.invariant.1.0.0,
          λ place. omega (arith, c.self.invariant.1.0.1 place, c.end_passes.ensures.room),
        ),
        c.self.invariant.1.1,
      ),
    )

pub returns-clause-leaves : goal.returns-clause-leaves
returns-clause-leaves c =
    let walk = c.self.inside in
    let items = walk.scripts.now.items in
    let next = ap (λ (w : CourseView). is_end (slice_get w.left 0)) c.self.view_is ∙ c.requires in
    let ends = ends_at walk.setup walk.rank items walk.place walk.step walk.repeats.items c.self.invariant.0.stands next in
    let some : 0 < c.flat_passes.result = omega arith in
    left_out walk.setup walk.rank items walk.place walk.step walk.repeats.items c.end_passes.new.repeats.items c.args.self.now.left
    (drop walk.step (left_at walk.setup walk.rank items walk.place c.end_passes.new.repeats.items)) c.flat_passes.result
    ends (c.flat_passes.ensures some) c.end_passes.ensures.left (ap (λ (w : CourseView). w.left) (sym c.self.view_is)) refl

pub returns-clause-same : goal.returns-clause-same
returns-clause-same c =
    let walk = c.self.inside in
    let now = drop walk.step (left_at walk.setup walk.rank walk.scripts.now.items walk.place c.end_passes.new.repeats.items) in
    ap (λ (w : CourseView). record w { left = now }) c.self.view_is
