use Rattle.std.proofs.Common.{sym, arith, slice_index, ◌≡◌, ◌∙◌, ◌≤◌, ap, Some}
use Rattle.scc_base.specs.Groups.{is_with, count_below}
use Rattle.scc_base.proofs.Counts.{list_at, list_past}
use Rattle.scc_base.proofs.GroupFacts.{with_true}
use Rattle.scc_base.proofs.communicators.nth_member.Goals as goal

pub returns-then-left-eq0 : goal.returns-then-left-eq0
returns-then-left-eq0 c =
    let here : count_below (is_with (λ x. slice_index c.args.roots.now x) c.args.r) c.loop-x.x ≡ c.args.i = omega (arith, c.loop-x.invariant, c.if-left-eq0.true) in
    let pass = with_true (λ x. slice_index c.args.roots.now x) c.args.r c.loop-x.x c.if-roots-x.true in
    record {
      gives = ap Some c.of.ensures.gives
          ∙ sym (list_at (is_with (λ x. slice_index c.args.roots.now x) c.args.r) c.args.nue c.loop-x.x c.args.i pass c.loop-x-test.true here);
    }

pub returns : goal.returns
returns c =
    let all : c.loop-x.x ≡ c.args.nue = omega (arith, c.loop-x-test.false, c.loop-x.auto.x-end) in
    let past : count_below (is_with (λ x. slice_index c.args.roots.now x) c.args.r) c.args.nue ≤ c.args.i = rw (← all) (omega (arith, c.loop-x.invariant)) in
    record { gives = sym (list_past (is_with (λ x. slice_index c.args.roots.now x) c.args.r) c.args.nue c.args.i past) }
