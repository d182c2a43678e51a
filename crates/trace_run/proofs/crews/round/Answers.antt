use Rattle.std.proofs.Common.{◌≡◌, ℕ, ◌*◌, ◌%◌, length, sym, ap, subst, arith}
use Rattle.rand_pcg.specs.Pcg.{pcg32}
use Rattle.scc_base.specs.Setups.{SetupView}
use Rattle.chip_run.specs.Crews.{CrewStands}
use Rattle.chip_run.specs.Orders.{TurnsOf, generator_after, named_ranks}
use Rattle.chip_run.proofs.OrderLaws.{drawn_on, none_drawn, none_picked, picked_on, turns_stand}
use Rattle.trace_run.proofs.SeenLaws.{still_both, still_first}
use Rattle.trace_run.proofs.crews.round.Goals as goal

pub turn_at-told-requires-clause-crew : goal.turn_at-told-requires-clause-crew
turn_at-told-requires-clause-crew g c =
    (turns_stand g.W.Worker.behaviour (named_ranks pcg32 (length c.args.crew.now) c.loop-turn.turn c.args.picks.now) c.args.chip.now c.loop-turn.chip c.args.crew.now c.loop-turn.crew
    c.requires.crew c.loop-turn.invariant.order).is_crew

pub loop-turn-init : goal.loop-turn-init
loop-turn-init g c = record {
  picks = sym (none_drawn pcg32 0 c.args.picks.now);
  order = none_picked g.W.Worker.behaviour pcg32 (length c.args.crew.now) c.args.picks.now c.args.chip.now c.args.crew.now;
  seen = c.requires.seen;
  wanted = still_first (g.N.Witness.wanted_after c.args.witness);
}

pub loop-turn-preserved : goal.loop-turn-preserved
loop-turn-preserved g c =
    let stands : CrewStands g.W.Worker.behaviour c.args.chip.now c.args.crew.now c.loop-turn.chip c.loop-turn.crew =
    turns_stand g.W.Worker.behaviour (named_ranks pcg32 (length c.args.crew.now) c.loop-turn.turn c.args.picks.now) c.args.chip.now c.loop-turn.chip c.args.crew.now c.loop-turn.crew
    c.requires.crew c.loop-turn.invariant.order in
    record {
      picks = drawn_on g.W.Worker.behaviour pcg32 (length c.args.crew.now) c.loop-turn.turn c.next_word.result c.args.picks.now c.loop-turn.picks c.next_word.new.self
          c.loop-turn.invariant.picks c.next_word.ensures;
      order = picked_on g.W.Worker.behaviour pcg32 (length c.args.crew.now) c.loop-turn.turn (c.next_word.result % length c.loop-turn.crew) c.next_word.result c.args.picks.now c.loop-turn.picks
          c.next_word.new.self c.args.chip.now c.loop-turn.chip c.turn_at-told.new.chip c.args.crew.now c.loop-turn.crew c.turn_at-told.new.crew c.turn_at-told.result.0
          c.loop-turn.invariant.order c.loop-turn.invariant.picks c.next_word.ensures (ap (λ (n : ℕ). c.next_word.result % n) stands.goes.count) c.turn_at-told.ensures.turned;
      seen = c.turn_at-told.ensures.seen;
      wanted = still_both (g.N.Witness.wanted_after c.args.witness) (g.N.Witness.wanted_after c.loop-turn.witness) (g.N.Witness.wanted_after c.turn_at-told.result.1) c.loop-turn.invariant.wanted c.turn_at-told.ensures.wanted;
    }

pub returns : goal.returns
returns g c =
    let all : c.loop-turn.turn ≡ 1000 * length c.args.crew.now =
    let each = c.requires.crew.each in let gives = c.nue-ranks.ensures.gives in let about = ap (λ (s : SetupView). s.nue) c.setup.ensures.gives in
    omega (arith, c.loop-turn-test.false, c.loop-turn.auto.turn-end, each, gives, about) in
    let order = subst (λ (n : ℕ). TurnsOf g.W.Worker.behaviour (named_ranks pcg32 (length c.args.crew.now) n c.args.picks.now) c.args.chip.now c.args.crew.now c.loop-turn.chip c.loop-turn.crew) all
    c.loop-turn.invariant.order in
    record {
      picks = subst (λ (n : ℕ). c.loop-turn.picks ≡ generator_after pcg32 n c.args.picks.now) all c.loop-turn.invariant.picks;
      order = order;
      stands = turns_stand g.W.Worker.behaviour (named_ranks pcg32 (length c.args.crew.now) (1000 * length c.args.crew.now) c.args.picks.now) c.args.chip.now c.loop-turn.chip c.args.crew.now c.loop-turn.crew
          c.requires.crew order;
      seen = c.loop-turn.invariant.seen;
      wanted = c.loop-turn.invariant.wanted;
    }
