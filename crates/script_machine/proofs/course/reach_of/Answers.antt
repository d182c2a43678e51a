use Rattle.std.proofs.Common.{◌≡◌, ◌+◌, ◌≤◌, ◌∙◌, ap, arith, length, sym}
use Rattle.std.proofs.lemmas.Option.{slice_get_within}
use Rattle.script_rules.specs.Script.{has_rank}
use Rattle.script_machine.specs.Depths.{depth_after, depth_at}
use Rattle.script_machine.specs.Program.{nesting_at}
use Rattle.script_machine.proofs.Walks.DepthLaws.{deepest_end, deepest_more, depth_more, depth_next}
use Rattle.script_machine.proofs.Walks.IdleLaws.{idle_more}
use Rattle.script_machine.proofs.course.reach_of.Goals as goal
use Rattle.script_machine.proofs.course.reach_of.Goals.{then-has, else-has, then-most-depth, else-most-depth}

pub loop-at-preserved : goal.loop-at-preserved
loop-at-preserved c =
    let items = c.args.scripts.now.items in
    let rank = c.args.rank in
    let more = depth_more rank (nesting_at rank c.item-item.result.now) (depth_at rank items c.loop-at.at) in
    let next = depth_next rank items c.loop-at.at c.item-item.result.now c.item-item.ensures.found in
    let here : c.depth_afterwards-depth.result ≡ depth_at rank items (c.loop-at.at + 1) =
    c.depth_afterwards-depth.ensures ∙ (λ i. depth_after (c.nesting_at.ensures i) (c.loop-at.invariant.here i)) ∙ sym next in
    record {
      here = here;
      few = omega (arith, c.loop-at.invariant.few, c.loop-at.invariant.here, here, next, more);
      so_far = elim c.if-most-depth.branch [
        | then-most-depth w ↦
            deepest_more rank items c.loop-at.at c.loop-at.most c.if-most-depth.most c.loop-at.invariant.so_far
            (omega (arith, w.if-most-depth.true, w.most-is)) (omega (arith, w.most-is, here))
        | else-most-depth w ↦
            deepest_more rank items c.loop-at.at c.loop-at.most c.if-most-depth.most c.loop-at.invariant.so_far
            (omega (arith, w.most-is)) (omega (arith, w.if-most-depth.false, w.most-is, here))
      ];
      reached = elim c.if-has.branch [
        | then-has w ↦ omega (arith, w.end-is)
        | else-has w ↦ omega (arith, w.end-is, c.loop-at.invariant.reached)
      ];
      idle = elim c.if-has.branch [
        | then-has w ↦ λ place other reach before found. absurd (omega (arith, reach, before, w.end-is))
        | else-has w ↦ λ place other reach before found.
            idle_more rank items c.loop-at.end c.loop-at.at c.item-item.result.now c.loop-at.invariant.idle c.item-item.ensures.found
            (ap (has_rank c.item-item.result.now.who) (sym c.number.ensures.gives) ∙ sym c.has.ensures ∙ w.if-has.false)
            place other (omega (arith, reach, w.end-is)) before found
      ];
    }

pub returns-clause-room : goal.returns-clause-room
returns-clause-room c =
    deepest_end c.args.rank c.args.scripts.now.items c.loop-at.at c.loop-at.most
    (omega (arith, c.loop-at-test.false, c.loop-at.auto.at-end, c.len-at-end.ensures)) c.loop-at.invariant.so_far

pub returns-clause-idle : goal.returns-clause-idle
returns-clause-idle c =
    let all : length c.args.scripts.now.items ≤ c.loop-at.at = omega (arith, c.loop-at-test.false, c.loop-at.auto.at-end, c.len-at-end.ensures) in
    record {
      within = omega (arith, c.loop-at.invariant.reached, c.loop-at.auto.at-end, c.len-at-end.ensures);
      idle = λ place item reach here.
          c.loop-at.invariant.idle place item reach (omega (arith, all, slice_get_within c.args.scripts.now.items place item here)) here;
    }
