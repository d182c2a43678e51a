use Rattle.std.proofs.Common.{refl, ◌∙◌, arith}
use Rattle.std.proofs.lemmas.Grind.{elements}
use Rattle.scc_mesh.specs.Scenes.{about_in, events_in}
use Rattle.scc_mesh.proofs.HandOuts.{all_at_home, none_at_home}
use Rattle.chip_run.proofs.ThreadLaws.{none_served, all_served, rank_below, tied_yet}
use Rattle.chip_run.proofs.threads.hand_out.Goals as goal

pub loop-at-init : goal.loop-at-init
loop-at-init g c = record {
  from = all_at_home c.args.chip.now c.requires.crew.whole;
  same = (refl, refl);
  events = λ q above. refl;
  served = none_served _ c.args.crew.now;
}

pub give-requires-clause-from : goal.give-requires-clause-from
give-requires-clause-from g c = c.loop-at.invariant.from

pub give-requires-clause-below : goal.give-requires-clause-below
give-requires-clause-below g c =
    rank_below (about_in c.args.chip.now) (about_in c.loop-at.chip) c.loop-at.at _ c.loop-at-test.true c.requires.crew.each c.loop-at.invariant.same.0

pub give-requires-clause-ties : goal.give-requires-clause-ties
give-requires-clause-ties g c =
    tied_yet g.W.Worker.behaviour.tied (about_in c.args.chip.now) (about_in c.loop-at.chip) c.loop-at.at _ _ c.loop-at.invariant.same.0
    (c.loop-at.invariant.served.left c.loop-at.at _ (omega arith)) (events_in c.args.chip.now c.loop-at.at) _ (c.loop-at.invariant.events c.loop-at.at (omega arith))
    (c.requires.crew.ties c.loop-at.at _ c.loop-at-test.true).ties

pub loop-at-preserved : goal.loop-at-preserved
loop-at-preserved g c = record {
  from = c.give.ensures.from;
  same = (c.give.ensures.same.0 ∙ c.loop-at.invariant.same.0, c.give.ensures.same.1 ∙ c.loop-at.invariant.same.1);
  events = λ q above. c.give.ensures.others q (λ e. omega (arith, e, above)) ∙ c.loop-at.invariant.events q (omega (arith, above));
  served = grind (arith, elements);
}

pub returns-clause-none : goal.returns-clause-none
returns-clause-none g c = none_at_home c.loop-at.chip c.loop-at.at c.loop-at.invariant.from

pub returns-clause-same : goal.returns-clause-same
returns-clause-same g c = c.loop-at.invariant.same

pub returns-clause-served : goal.returns-clause-served
returns-clause-served g c = all_served _ c.loop-at.at _ c.args.crew.now c.loop-at.crew c.loop-at.auto.at-end c.loop-at-test.false c.loop-at.invariant.served
