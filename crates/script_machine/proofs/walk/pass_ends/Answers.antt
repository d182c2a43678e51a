use Rattle.std.proofs.Common.{◌≡◌, ◌∙◌, true, ap, sym, arith, slice_get, drop, length}
use Rattle.script_machine.specs.Program.{prims_in}
use Rattle.script_machine.specs.Walk.{CourseView, is_end}
use Rattle.script_machine.proofs.Walks.MarkLaws.{first_prim, less_marks, same_prims}
use Rattle.script_machine.proofs.walk.pass_ends.Goals as goal

pub loop-course-preserved : goal.loop-course-preserved
loop-course-preserved c =
    let left = c.loop-course.course.left in
    let here : is_end (slice_get left 0) ≡ true = sym c.is_at_end.ensures ∙ c.loop-course-test.true in
    let gone : c.advance.new.self.left ≡ drop 1 left = ap (λ (w : CourseView). w.left) c.advance.ensures in
    record {
      same = ap prims_in gone ∙ same_prims left here ∙ c.loop-course.invariant.same;
      script = ap (λ (w : CourseView). w.script) c.advance.ensures ∙ c.loop-course.invariant.script;
      setup = ap (λ (w : CourseView). w.setup) c.advance.ensures ∙ c.loop-course.invariant.setup;
      rank = ap (λ (w : CourseView). w.rank) c.advance.ensures ∙ c.loop-course.invariant.rank;
    }

pub loop-course-smaller : goal.loop-course-smaller
loop-course-smaller c =
    let left = c.loop-course.course.left in
    let here : is_end (slice_get left 0) ≡ true = sym c.is_at_end.ensures ∙ c.loop-course-test.true in
    let gone : c.advance.new.self.left ≡ drop 1 left = ap (λ (w : CourseView). w.left) c.advance.ensures in
    let less = less_marks left here in
    omega (arith, less, ap length gone)

pub returns-clause-front : goal.returns-clause-front
returns-clause-front c =
    let stands = sym c.is_at_end.ensures ∙ c.loop-course-test.false in
    record {
      stands = stands;
      same = c.front.ensures.same ∙ first_prim c.loop-course.course.left stands;
      short = c.front.ensures.short;
    }
