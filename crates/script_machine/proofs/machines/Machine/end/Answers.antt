use Rattle.std.proofs.Common.{◌≡◌, ◌∙◌, Option, Some, ap, option_map, slice_get, sym}
use Rattle.scc_base.specs.declared.calls.Call.{Call}
use Rattle.script_machine.specs.Local.{Local, end_by_prim, end_by_standing, end_of, end_waiting_at, local_next, next_by_prim, prim_by_standing}
use Rattle.script_machine.specs.Machine.{MachineView}
use Rattle.script_machine.specs.Next.{call_next}
use Rattle.script_machine.specs.Program.{Prim}
use Rattle.script_machine.specs.Walk.{prim_meant}
use Rattle.script_machine.specs.declared.ends.UeEnd.TheVariants.{Waits}
use Rattle.script_machine.specs.declared.posts.Posted.{Posted}
use Rattle.script_machine.specs.declared.prims.Standing.{Standing}
use Rattle.script_machine.specs.declared.prims.Standing.TheVariants.{Running, Mismatched}
use Rattle.script_machine.proofs.machines.Machine.end.Goals as goal

-- a rank whose next primitive is a call waits at it
waits_at : (slot : Option Posted) (u : Local) (p : Prim) (call : Call) → slice_get u.left 0 ≡ Some p → call_next (local_next u) ≡ Some call → Waits p.line call ≡ end_of slot u
unfolding local_next
waits_at slot u p call front is = by_standing u.standing is
  where
    by_standing : (s : Standing) → call_next (next_by_prim u (prim_by_standing s u.left)) ≡ Some call → Waits p.line call ≡ end_by_standing slot u s
    by_standing Running stands =
        sym (ap (end_waiting_at p.line) (sym (ap (λ (o : Option Prim). call_next (next_by_prim u o)) front) ∙ stands)) ∙ sym (ap (end_by_prim slot u) front)
    by_standing (Mismatched line from sent asked) stands = absurd cc

-- Names the goal, so that the prover rejects a wrong body at once, without a search.
pub returns-in-Some-call : goal.returns-in-Some-call
returns-in-Some-call c =
    λ slot posted. waits_at slot c.args.self.now.local (prim_meant c.in-Some.next.now) c.in-Some-call.call
    (sym (ap (λ (m : MachineView). slice_get m.local.left 0) c.self.view_is) ∙ sym c.front_lent.ensures.same ∙ ap (option_map (λ p. prim_meant p.now)) c.in-Some.is)
    (sym c.call.ensures ∙ c.in-Some-call.is)
