use Rattle.std.proofs.Common.{ℕ, length, refl, subst, sym, ◌∙◌}
use Rattle.chip_run.specs.Crews.{AllRest, CrewStands}
use Rattle.chip_run.proofs.CrewLaws.{moved_falls, stands_both, stands_first}
use Rattle.chip_run.proofs.OrderLaws.{sweep_then}
use Rattle.chip_run.proofs.RestLaws.{all_rest_by, ends_with_by, none_drafts}
use Rattle.chip_run.proofs.sweeps.run_by_sweeps.Goals as goal

pub sweep-came-requires : goal.sweep-came-requires
sweep-came-requires g c = record { crew = c.loop-end.invariant.stands.is_crew }

pub loop-end-init : goal.loop-end-init
loop-end-init g c = record { stands = stands_first g.W.Worker.behaviour c.args.chip.now c.args.crew.now c.requires.crew; order = (0, (refl, refl)) }

pub loop-end-preserved : goal.loop-end-preserved
loop-end-preserved g c = record {
  stands = stands_both g.W.Worker.behaviour c.args.chip.now c.loop-end.chip c.sweep-came.new.chip c.args.crew.now c.loop-end.crew c.sweep-came.new.crew
      c.loop-end.invariant.stands c.sweep-came.ensures.swept.stands;
  order = sweep_then g.W.Worker.behaviour c.loop-end.invariant.order.0 c.args.chip.now c.loop-end.chip c.sweep-came.new.chip c.args.crew.now c.loop-end.crew c.sweep-came.new.crew
      c.loop-end.invariant.stands.goes.count c.loop-end.invariant.order.1 c.sweep-came.ensures.order;
}

pub loop-end-smaller : goal.loop-end-smaller
loop-end-smaller g c =
    moved_falls g.W.Worker.behaviour c.sweep-came.result (length c.loop-end.crew) c.args.chip.now c.loop-end.chip c.sweep-came.new.chip
    c.loop-end.crew c.sweep-came.new.crew (sym c.end.ensures.gives ∙ c.in_default.is) c.loop-end.invariant.stands.goes.about c.sweep-came.ensures.swept.swept

pub returns-in-Some-clause-stands : goal.returns-in-Some-clause-stands
returns-in-Some-clause-stands g c =
    stands_both g.W.Worker.behaviour c.args.chip.now c.loop-end.chip c.sweep-came.new.chip c.args.crew.now c.loop-end.crew c.sweep-came.new.crew
    c.loop-end.invariant.stands c.sweep-came.ensures.swept.stands

pub returns-in-Some-clause-rests : goal.returns-in-Some-clause-rests
returns-in-Some-clause-rests g c =
    subst (λ (n : ℕ). AllRest g.W.Worker.behaviour c.sweep-came.new.chip c.sweep-came.new.crew n) (sym c.sweep-came.ensures.swept.stands.goes.count)
    (all_rest_by g.W.Worker.behaviour c.sweep-came.result c.in-Some.end (length c.loop-end.crew) c.loop-end.chip c.loop-end.crew c.sweep-came.new.chip c.sweep-came.new.crew
    (sym c.end.ensures.gives ∙ c.in-Some.is) c.sweep-came.ensures.swept.swept)

pub returns-in-Some-clause-answer : goal.returns-in-Some-clause-answer
returns-in-Some-clause-answer g c =
    ends_with_by g.W.Worker.behaviour c.sweep-came.result c.in-Some.end (length c.loop-end.crew) c.loop-end.chip c.loop-end.crew c.sweep-came.new.chip c.sweep-came.new.crew
    (sym c.end.ensures.gives ∙ c.in-Some.is) (sym c.sweep-came.ensures.swept.stands.goes.count) c.sweep-came.ensures.swept.swept

pub returns-in-Some-clause-no_draft : goal.returns-in-Some-clause-no_draft
returns-in-Some-clause-no_draft g c =
    let stands : CrewStands g.W.Worker.behaviour c.args.chip.now c.args.crew.now c.sweep-came.new.chip c.sweep-came.new.crew = returns-in-Some-clause-stands g c in
    none_drafts g.W.Worker.behaviour c.sweep-came.new.chip c.sweep-came.new.crew stands.is_crew.each (returns-in-Some-clause-rests g c)

pub returns-in-Some-clause-order : goal.returns-in-Some-clause-order
returns-in-Some-clause-order g c =
    sweep_then g.W.Worker.behaviour c.loop-end.invariant.order.0 c.args.chip.now c.loop-end.chip c.sweep-came.new.chip c.args.crew.now c.loop-end.crew c.sweep-came.new.crew
    c.loop-end.invariant.stands.goes.count c.loop-end.invariant.order.1 c.sweep-came.ensures.order
