use Rattle.std.proofs.Common.{◌∙◌, [], ap, sym, slice_get}
use Rattle.script_machine.specs.Program.{prims_in}
use Rattle.script_machine.specs.Walk.{CourseView, WalkView, is_end}
use Rattle.script_machine.proofs.walk.Walk.finish.Goals as goal

pub invariant_of-self : goal.invariant_of-self
invariant_of-self c = record {
  stands = ap (λ (w : CourseView). is_end (slice_get w.left 0)) c.finish.ensures;
  same = sym (ap (λ (w : CourseView). slice_get (prims_in w.left) 0) c.finish.ensures);
  short = tt;
}

pub returns : goal.returns
returns c =
    ap (λ (w : CourseView). record { script = w.script; setup = w.setup; rank = w.rank; left = prims_in w.left }) c.finish.ensures
    ∙ ap (λ (w : WalkView). record w { left = [] }) c.self.view_is
