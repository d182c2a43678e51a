use Rattle.std.proofs.Common.{◌≡◌, ◌∙◌, ap, arith, drop, length, refl, slice_get, subst, sym, Some}
use Rattle.std.specs.Option.{option_map}
use Rattle.script_machine.specs.Lengths.{Lengths, lengths_after}
use Rattle.script_machine.specs.Passes.{KeepsRegisters}
use Rattle.script_machine.specs.Walk.{CourseView, prim_meant, prim_of}
use Rattle.script_machine.proofs.ProgramLengths.RoomLaws.{wider_same, wider_wider}
use Rattle.script_machine.proofs.ProgramLengths.BatchLaws.{course_goes, course_same, front_less, kept_kept, none_next, batch_more, batch_none}
use Rattle.script_machine.proofs.Choices.{both_true}
use Rattle.script_machine.proofs.trials.reckon_prims.Goals as goal

pub loop-prim-init : goal.loop-prim-init
loop-prim-init c = record {
  batch = batch_none c.args.reckoning.now.most c.args.reckoning.now.lengths c.args.course.now.left;
  wider = wider_same c.args.reckoning.now.most;
  kept = λ yes. refl;
  same = refl;
}

pub loop-prim-preserved : goal.loop-prim-preserved
loop-prim-preserved c =
    let r = c.loop-prim.reckoning in
    let left = c.loop-prim.course.left in
    let prim = prim_meant c.in-Some.prim in
    let front : prim_of (slice_get left 0) ≡ Some prim = sym c.front.ensures.same ∙ ap (option_map prim_meant) c.in-Some.is in
    let gone : c.advance.new.self.left ≡ drop 1 left = ap (λ (w : CourseView). w.left) c.advance.ensures in
    record {
      batch = batch_more r.most c.go.new.self.most c.args.reckoning.now.lengths r.lengths c.go.new.self.lengths c.args.course.now.left left c.advance.new.self.left prim
          c.loop-prim.invariant.batch c.in_ok-go.ensures.wider c.within_law.ensures c.in_ok-go.ensures.spare c.in_ok-go.ensures.after front gone;
      wider = wider_wider c.args.reckoning.now.most r.most c.go.new.self.most c.loop-prim.invariant.wider c.in_ok-go.ensures.wider;
      kept = λ yes.
          let both = both_true c.loop-prim.kept c.keeps-kept.result yes in
          let here = subst (λ (l : Lengths). KeepsRegisters l (lengths_after l prim.act)) c.lengths.ensures (c.keeps-kept.ensures both.1) in
          kept_kept c.args.reckoning.now.lengths r.lengths c.go.new.self.lengths (c.loop-prim.invariant.kept both.0) (subst (KeepsRegisters r.lengths) (sym c.in_ok-go.ensures.after) here);
      same = course_same c.args.course.now c.loop-prim.course c.advance.new.self c.loop-prim.invariant.same (course_goes c.loop-prim.course c.advance.new.self (drop 1 left) c.advance.ensures);
    }

pub loop-prim-smaller : goal.loop-prim-smaller
loop-prim-smaller c =
    let left = c.loop-prim.course.left in
    let front : prim_of (slice_get left 0) ≡ Some (prim_meant c.in-Some.prim) = sym c.front.ensures.same ∙ ap (option_map prim_meant) c.in-Some.is in
    let gone : c.advance.new.self.left ≡ drop 1 left = ap (λ (w : CourseView). w.left) c.advance.ensures in
    let less = front_less left (prim_meant c.in-Some.prim) front in
    omega (arith, less, ap length gone)

pub returns-clause-stands : goal.returns-clause-stands
returns-clause-stands c = none_next c.front.result (prim_of (slice_get c.loop-prim.course.left 0)) c.front.ensures.same c.in_default.not-Some
