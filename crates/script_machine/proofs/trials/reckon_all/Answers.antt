use Rattle.std.proofs.Common.{◌∙◌, List, [], refl, subst, sym}
use Rattle.script_machine.specs.Passes.{HoldsBefore}
use Rattle.script_machine.specs.Program.{Prim, prims_in}
use Rattle.script_machine.proofs.ProgramLengths.RoomLaws.{wider_same, wider_wider}
use Rattle.script_machine.proofs.ProgramLengths.BatchLaws.{before_before, course_same, none_left, batch_holds}
use Rattle.script_machine.proofs.trials.reckon_all.Goals as goal

pub loop-course-init : goal.loop-course-init
loop-course-init c = record {
  holds = λ room wider within. within;
  wider = wider_same c.reckon_prims.new.reckoning.most;
  stands = c.in_ok-reckon_prims.ensures.stands;
  same = refl;
}

pub reckon_pass-requires : goal.reckon_pass-requires
reckon_pass-requires c = sym c.is_at_end.ensures ∙ c.loop-course-test.true

pub loop-course-preserved : goal.loop-course-preserved
loop-course-preserved c =
    let first = c.reckon_prims.new.reckoning in
    let start = c.reckon_prims.new.course in
    let r = c.loop-course.reckoning in
    let next = c.reckon_pass.new.reckoning in
    let done = c.in_ok-reckon_pass.ensures in
    record {
      holds = before_before r.most next.most first.lengths r.lengths next.lengths (prims_in start.left) (prims_in c.loop-course.course.left) (prims_in c.reckon_pass.new.course.left)
          done.wider c.loop-course.invariant.holds done.holds;
      wider = wider_wider first.most r.most next.most c.loop-course.invariant.wider done.wider;
      stands = done.stands;
      same = course_same start c.loop-course.course c.reckon_pass.new.course c.loop-course.invariant.same done.same;
    }

pub returns-clause-holds : goal.returns-clause-holds
returns-clause-holds c =
    let old = c.args.reckoning.now in
    let first = c.reckon_prims.new.reckoning in
    let start = c.args.course.now.left in
    let afterwards = c.reckon_prims.new.course.left in
    let r = c.loop-course.reckoning in
    let prims = batch_holds first.most old.lengths first.lengths start afterwards c.in_ok-reckon_prims.ensures.batch in
    let none = none_left c.loop-course.course.left (sym c.is_at_end.ensures ∙ c.loop-course-test.false) c.loop-course.invariant.stands in
    let passes = subst (λ (p : List Prim). HoldsBefore r.most first.lengths (prims_in afterwards) r.lengths p) none c.loop-course.invariant.holds in
    before_before first.most r.most old.lengths first.lengths r.lengths (prims_in start) (prims_in afterwards) [] c.loop-course.invariant.wider prims passes

pub returns-clause-same : goal.returns-clause-same
returns-clause-same c =
    course_same c.args.course.now c.reckon_prims.new.course c.loop-course.course c.in_ok-reckon_prims.ensures.same c.loop-course.invariant.same
