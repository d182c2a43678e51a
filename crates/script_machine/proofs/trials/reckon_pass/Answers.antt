use Rattle.std.proofs.Common.{◌≡◌, ◌∙◌, ap, arith, drop, length, sym}
use Rattle.script_machine.specs.Lengths.{Lengths}
use Rattle.script_machine.specs.Walk.{CourseView}
use Rattle.script_machine.proofs.ProgramLengths.BatchLaws.{again_ends, comes_again, course_goes, course_same, kept_same, pass_holds, quiet_holds, batch_shorter}
use Rattle.script_machine.proofs.Walks.FlatLaws.{out_shorter, out_stands}
use Rattle.script_machine.proofs.Walks.MarkLaws.{less_marks}
use Rattle.script_machine.proofs.trials.reckon_pass.Goals as goal

pub returns-then-not-is_quiet-clause-holds : goal.returns-then-not-is_quiet-clause-holds
returns-then-not-is_quiet-clause-holds c =
    let r = c.reckon_prims.new.reckoning in
    pass_holds r.most c.args.reckoning.now.lengths r.lengths c.args.course.now.left c.advance.new.self.left c.reckon_prims.new.course.left
    c.requires (ap (λ (w : CourseView). w.left) c.advance.ensures) c.in_ok-kept.ensures.batch

pub returns-then-not-is_quiet-clause-less : goal.returns-then-not-is_quiet-clause-less
returns-then-not-is_quiet-clause-less c =
    let r = c.reckon_prims.new.reckoning in
    let gone : c.advance.new.self.left ≡ drop 1 c.args.course.now.left = ap (λ (w : CourseView). w.left) c.advance.ensures in
    let first = less_marks c.args.course.now.left c.requires in
    let more = batch_shorter r.most c.args.reckoning.now.lengths r.lengths c.advance.new.self.left c.reckon_prims.new.course.left c.in_ok-kept.ensures.batch in
    omega (arith, first, more, ap length gone)

pub returns-then-not-is_quiet-clause-same : goal.returns-then-not-is_quiet-clause-same
returns-then-not-is_quiet-clause-same c =
    course_same c.args.course.now c.advance.new.self c.reckon_prims.new.course (course_goes c.args.course.now c.advance.new.self (drop 1 c.args.course.now.left) c.advance.ensures) c.in_ok-kept.ensures.same

pub leave-requires : goal.leave-requires
leave-requires c =
    let r = c.reckon_prims.new.reckoning in
    let left = c.reckon_prims.new.course.left in
    let gone = ap (λ (w : CourseView). w.left) c.advance.ensures in
    let s = c.in_ok-kept.ensures.batch in
    again_ends s.prims left
    (comes_again r.most c.args.reckoning.now.lengths r.lengths c.args.course.now.left c.advance.new.self.left left c.passes-passes.result c.passes-passes.ensures
    (c.is_quiet.ensures.passes c.if-not-is_quiet.false) gone s c.in_ok-kept.ensures.stands)

pub returns-clause-holds : goal.returns-clause-holds
returns-clause-holds c =
    let r = c.reckon_prims.new.reckoning in
    let old = c.args.reckoning.now in
    let left = c.reckon_prims.new.course.left in
    let gone = ap (λ (w : CourseView). w.left) c.advance.ensures in
    let s = c.in_ok-kept.ensures.batch in
    let quiet = c.if-not-is_quiet.false in
    let again = comes_again r.most old.lengths r.lengths c.args.course.now.left c.advance.new.self.left left c.passes-passes.result c.passes-passes.ensures
    (c.is_quiet.ensures.passes quiet) gone s c.in_ok-kept.ensures.stands in
    let folded : r.lengths.accumulator ≡ old.lengths.accumulator =
    ap (λ (l : Lengths). l.accumulator) (sym c.lengths-3.ensures) ∙ c.is_quiet.ensures.folded quiet ∙ c.accumulator-folded.ensures ∙ ap (λ (l : Lengths). l.accumulator) c.lengths.ensures in
    let taken : r.lengths.received ≡ old.lengths.received =
    ap (λ (l : Lengths). l.received) (sym c.lengths-3.ensures) ∙ c.is_quiet.ensures.taken quiet ∙ c.received-taken.ensures ∙ ap (λ (l : Lengths). l.received) c.lengths-2.ensures in
    quiet_holds r.most old.lengths r.lengths c.args.course.now.left c.advance.new.self.left left c.leave.new.self.left c.requires gone s again c.leave.ensures.leaves
    (kept_same old.lengths r.lengths (c.in_ok-kept.ensures.kept (c.is_quiet.ensures.kept quiet)) folded taken)

pub returns-clause-less : goal.returns-clause-less
returns-clause-less c =
    let r = c.reckon_prims.new.reckoning in
    let gone : c.advance.new.self.left ≡ drop 1 c.args.course.now.left = ap (λ (w : CourseView). w.left) c.advance.ensures in
    let first = less_marks c.args.course.now.left c.requires in
    let more = batch_shorter r.most c.args.reckoning.now.lengths r.lengths c.advance.new.self.left c.reckon_prims.new.course.left c.in_ok-kept.ensures.batch in
    let out = out_shorter c.reckon_prims.new.course.left c.leave.new.self.left c.leave.ensures.leaves in
    omega (arith, first, more, out, ap length gone)

pub returns-clause-stands : goal.returns-clause-stands
returns-clause-stands c = out_stands c.reckon_prims.new.course.left c.leave.new.self.left c.leave.ensures.leaves

pub returns-clause-same : goal.returns-clause-same
returns-clause-same c =
    let next = course_same c.args.course.now c.advance.new.self c.reckon_prims.new.course (course_goes c.args.course.now c.advance.new.self (drop 1 c.args.course.now.left) c.advance.ensures) c.in_ok-kept.ensures.same in
    course_same c.args.course.now c.reckon_prims.new.course c.leave.new.self next c.leave.ensures.same
