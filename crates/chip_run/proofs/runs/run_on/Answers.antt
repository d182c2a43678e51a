use Rattle.std.proofs.Common.{ℕ, ◌+◌, ◌<◌, length, arith, refl, subst, sym, ◌∙◌}
use Rattle.scc_mesh.specs.Scenes.{about_in}
use Rattle.chip_run.specs.declared.runs.Rounds.{Rounds}
use Rattle.chip_run.specs.Away.{behaviour_of_members}
use Rattle.chip_run.specs.Crews.{AllRest, CrewStands, all_left}
use Rattle.chip_run.specs.Runs.{RoundsTo, rounds_of}
use Rattle.chip_run.proofs.CrewLaws.{below_all, moved_falls, round_falls, stands_both, stands_first}
use Rattle.chip_run.proofs.RestLaws.{all_rest_by, ends_with_by, none_drafts}
use Rattle.chip_run.proofs.RunLaws.{asks_on, no_rounds, ran_in_order, rounds_on, threads_yet}
use Rattle.chip_run.proofs.runs.run_on.Goals as goal

pub loop-end-init : goal.loop-end-init
loop-end-init g c = record {
  stands = stands_first (behaviour_of_members g.W.Worker.behaviour) c.args.chip.now c.args.crew.now c.requires.crew;
  threads = omega (arith, c.requires.some);
  order = (
    0,
    subst (λ (w : Rounds). RoundsTo (behaviour_of_members g.W.Worker.behaviour) (rounds_of c.args.mode) 0 w c.args.chip.now c.args.crew.now c.args.chip.now c.args.crew.now)
        (sym c.of-rounds.ensures.gives)
        (no_rounds (behaviour_of_members g.W.Worker.behaviour) (rounds_of c.args.mode) c.args.chip.now c.args.crew.now),
    λ threaded. refl,
  );
}

pub loop-end-preserved : goal.loop-end-preserved
loop-end-preserved g c = record {
  stands = stands_both (behaviour_of_members g.W.Worker.behaviour) c.args.chip.now c.next_round.new.chip c.sweep-came.new.chip c.args.crew.now c.next_round.new.crew c.sweep-came.new.crew
      (stands_both (behaviour_of_members g.W.Worker.behaviour) c.args.chip.now c.loop-end.chip c.next_round.new.chip c.args.crew.now c.loop-end.crew c.next_round.new.crew
      c.loop-end.invariant.stands c.next_round.ensures.stands)
      c.sweep-came.ensures.swept.stands;
  threads = c.next_round.ensures.threads;
  order = (
    c.loop-end.invariant.order.0 + 1,
    rounds_on (behaviour_of_members g.W.Worker.behaviour) (rounds_of c.args.mode) c.loop-end.rounds c.next_round.new.rounds c.loop-end.invariant.order.0
        c.args.chip.now c.loop-end.chip c.next_round.new.chip c.sweep-came.new.chip c.args.crew.now c.loop-end.crew c.next_round.new.crew c.sweep-came.new.crew
        c.loop-end.invariant.order.1 c.next_round.ensures.next c.loop-end.invariant.stands.goes.count c.next_round.ensures.stands.goes.count c.sweep-came.ensures.order,
    λ threaded. asks_on g.M.Marks.shown (length c.args.crew.now) (length c.loop-end.crew) c.loop-end.invariant.order.0 c.loop-end.threads c.next_round.new.threads
        c.loop-end.invariant.stands.goes.count (c.loop-end.invariant.order.2 threaded)
        (c.next_round.ensures.asks (threads_yet (behaviour_of_members g.W.Worker.behaviour) (rounds_of c.args.mode) c.loop-end.rounds c.loop-end.invariant.order.0
        c.args.chip.now c.loop-end.chip c.args.crew.now c.loop-end.crew c.loop-end.invariant.order.1 threaded)),
  );
}

pub loop-end-smaller : goal.loop-end-smaller
loop-end-smaller g c =
    let s = about_in c.args.chip.now in
    let w = behaviour_of_members g.W.Worker.behaviour in
    let here = c.loop-end.invariant.stands.goes.about in
    below_all (all_left w s c.sweep-came.new.crew) (all_left w s c.next_round.new.crew) (all_left w s c.loop-end.crew)
    (moved_falls w c.sweep-came.result (length c.next_round.new.crew) c.args.chip.now c.next_round.new.chip c.sweep-came.new.chip
    c.next_round.new.crew c.sweep-came.new.crew (sym c.end.ensures.gives ∙ c.in_default.is) (c.next_round.ensures.stands.goes.about ∙ here) c.sweep-came.ensures.swept.swept)
    (round_falls w c.args.chip.now c.loop-end.chip c.next_round.new.chip c.loop-end.crew c.next_round.new.crew here c.next_round.ensures.stands.goes)

pub returns-in-Some-clause-stands : goal.returns-in-Some-clause-stands
returns-in-Some-clause-stands g c =
    stands_both (behaviour_of_members g.W.Worker.behaviour) c.args.chip.now c.next_round.new.chip c.sweep-came.new.chip c.args.crew.now c.next_round.new.crew c.sweep-came.new.crew
    (stands_both (behaviour_of_members g.W.Worker.behaviour) c.args.chip.now c.loop-end.chip c.next_round.new.chip c.args.crew.now c.loop-end.crew c.next_round.new.crew
    c.loop-end.invariant.stands c.next_round.ensures.stands)
    c.sweep-came.ensures.swept.stands

pub returns-in-Some-clause-rests : goal.returns-in-Some-clause-rests
returns-in-Some-clause-rests g c =
    subst (λ (n : ℕ). AllRest (behaviour_of_members g.W.Worker.behaviour) c.sweep-came.new.chip c.sweep-came.new.crew n) (sym c.sweep-came.ensures.swept.stands.goes.count)
    (all_rest_by (behaviour_of_members g.W.Worker.behaviour) c.sweep-came.result c.in-Some.end (length c.next_round.new.crew) c.next_round.new.chip c.next_round.new.crew c.sweep-came.new.chip c.sweep-came.new.crew
    (sym c.end.ensures.gives ∙ c.in-Some.is) c.sweep-came.ensures.swept.swept)

pub returns-in-Some-clause-answer : goal.returns-in-Some-clause-answer
returns-in-Some-clause-answer g c =
    ends_with_by (behaviour_of_members g.W.Worker.behaviour) c.sweep-came.result c.in-Some.end (length c.next_round.new.crew) c.next_round.new.chip c.next_round.new.crew c.sweep-came.new.chip c.sweep-came.new.crew
    (sym c.end.ensures.gives ∙ c.in-Some.is) (sym c.sweep-came.ensures.swept.stands.goes.count) c.sweep-came.ensures.swept.swept

pub returns-in-Some-clause-no_draft : goal.returns-in-Some-clause-no_draft
returns-in-Some-clause-no_draft g c =
    let stands : CrewStands (behaviour_of_members g.W.Worker.behaviour) c.args.chip.now c.args.crew.now c.sweep-came.new.chip c.sweep-came.new.crew = returns-in-Some-clause-stands g c in
    none_drafts (behaviour_of_members g.W.Worker.behaviour) c.sweep-came.new.chip c.sweep-came.new.crew stands.is_crew.each (returns-in-Some-clause-rests g c)

pub returns-in-Some-clause-order : goal.returns-in-Some-clause-order
returns-in-Some-clause-order g c =
    ran_in_order (behaviour_of_members g.W.Worker.behaviour) c.args.mode (c.loop-end.invariant.order.0 + 1) c.next_round.new.rounds
    c.args.chip.now c.sweep-came.new.chip c.args.crew.now c.sweep-came.new.crew
    (rounds_on (behaviour_of_members g.W.Worker.behaviour) (rounds_of c.args.mode) c.loop-end.rounds c.next_round.new.rounds c.loop-end.invariant.order.0
    c.args.chip.now c.loop-end.chip c.next_round.new.chip c.sweep-came.new.chip c.args.crew.now c.loop-end.crew c.next_round.new.crew c.sweep-came.new.crew
    c.loop-end.invariant.order.1 c.next_round.ensures.next c.loop-end.invariant.stands.goes.count c.next_round.ensures.stands.goes.count c.sweep-came.ensures.order)

pub returns-in-Some-clause-passed : goal.returns-in-Some-clause-passed
returns-in-Some-clause-passed g c = λ threaded k low.
    c.next_round.ensures.passed (threads_yet (behaviour_of_members g.W.Worker.behaviour) (rounds_of c.args.mode) c.loop-end.rounds c.loop-end.invariant.order.0
    c.args.chip.now c.loop-end.chip c.args.crew.now c.loop-end.crew c.loop-end.invariant.order.1 threaded)
    k (subst (λ (n : ℕ). k < n) (sym c.loop-end.invariant.stands.goes.count) low)

pub returns-in-Some-clause-rounds : goal.returns-in-Some-clause-rounds
returns-in-Some-clause-rounds g c = (
  c.loop-end.invariant.order.0 + 1,
  c.next_round.new.rounds,
  rounds_on (behaviour_of_members g.W.Worker.behaviour) (rounds_of c.args.mode) c.loop-end.rounds c.next_round.new.rounds c.loop-end.invariant.order.0
      c.args.chip.now c.loop-end.chip c.next_round.new.chip c.sweep-came.new.chip c.args.crew.now c.loop-end.crew c.next_round.new.crew c.sweep-came.new.crew
      c.loop-end.invariant.order.1 c.next_round.ensures.next c.loop-end.invariant.stands.goes.count c.next_round.ensures.stands.goes.count c.sweep-came.ensures.order,
  λ threaded. (
    c.next_round.new.threads,
    asks_on g.M.Marks.shown (length c.args.crew.now) (length c.loop-end.crew) c.loop-end.invariant.order.0 c.loop-end.threads c.next_round.new.threads
        c.loop-end.invariant.stands.goes.count (c.loop-end.invariant.order.2 threaded)
        (c.next_round.ensures.asks (threads_yet (behaviour_of_members g.W.Worker.behaviour) (rounds_of c.args.mode) c.loop-end.rounds c.loop-end.invariant.order.0
        c.args.chip.now c.loop-end.chip c.args.crew.now c.loop-end.crew c.loop-end.invariant.order.1 threaded)),
  ),
)
