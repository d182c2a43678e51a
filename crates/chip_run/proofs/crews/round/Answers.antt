use Rattle.std.proofs.Common.{◌≡◌, ℕ, ◌*◌, ◌%◌, ◌<◌, length, sym, ap, subst, arith}
use Rattle.std.proofs.Math.Nat.{mod-lt}
use Rattle.rand_pcg.specs.Pcg.{pcg32}
use Rattle.scc_base.specs.Setups.{SetupView}
use Rattle.chip_run.specs.Away.{behaviour_of_members}
use Rattle.chip_run.specs.Crews.{CrewStands}
use Rattle.chip_run.specs.Orders.{TurnsOf, generator_after, named_ranks}
use Rattle.chip_run.proofs.CrewHands.{ties_here}
use Rattle.chip_run.proofs.MemberLaws.{members_free, one_member}
use Rattle.chip_run.proofs.OrderLaws.{drawn_on, none_drawn, none_picked, picked_on, turns_stand}
use Rattle.chip_run.proofs.crews.round.Goals as goal

pub turn_at_home-requires : goal.turn_at_home-requires
turn_at_home-requires g c =
    let stands : CrewStands (behaviour_of_members g.W.Worker.behaviour) c.args.chip.now c.args.crew.now c.loop-turn.chip c.loop-turn.crew =
    turns_stand (behaviour_of_members g.W.Worker.behaviour) (named_ranks pcg32 (length c.args.crew.now) c.loop-turn.turn c.args.picks.now) c.args.chip.now c.loop-turn.chip c.args.crew.now c.loop-turn.crew
    c.requires.crew c.loop-turn.invariant.order in
    let some : 0 < length c.loop-turn.crew = omega (arith, c.requires.some, stands.goes.count) in
    let low : c.next_word.result % length c.loop-turn.crew < length c.loop-turn.crew = mod-lt c.next_word.result some in
    record {
      whole = stands.is_crew.whole;
      below = let is = c.of.ensures.gives in let each = stands.is_crew.each in omega (arith, low, is, each);
      free = members_free g.W.Worker.behaviour g.met.W.Worker.hands c.loop-turn.chip c.loop-turn.crew c.index-crew-at.result c.of.result stands.is_crew;
      ties = (ties_here (behaviour_of_members g.W.Worker.behaviour) c.loop-turn.chip c.loop-turn.crew (c.next_word.result % length c.loop-turn.crew) c.of.result c.index-crew-at.result stands.is_crew low c.of.ensures.gives).ties;
    }

pub loop-turn-init : goal.loop-turn-init
loop-turn-init g c = record {
  picks = sym (none_drawn pcg32 0 c.args.picks.now);
  order = none_picked (behaviour_of_members g.W.Worker.behaviour) pcg32 (length c.args.crew.now) c.args.picks.now c.args.chip.now c.args.crew.now;
}

pub loop-turn-preserved : goal.loop-turn-preserved
loop-turn-preserved g c =
    let stands : CrewStands (behaviour_of_members g.W.Worker.behaviour) c.args.chip.now c.args.crew.now c.loop-turn.chip c.loop-turn.crew =
    turns_stand (behaviour_of_members g.W.Worker.behaviour) (named_ranks pcg32 (length c.args.crew.now) c.loop-turn.turn c.args.picks.now) c.args.chip.now c.loop-turn.chip c.args.crew.now c.loop-turn.crew
    c.requires.crew c.loop-turn.invariant.order in
    let some : 0 < length c.loop-turn.crew = omega (arith, c.requires.some, stands.goes.count) in
    let at = c.next_word.result % length c.loop-turn.crew in
    record {
      picks = drawn_on (behaviour_of_members g.W.Worker.behaviour) pcg32 (length c.args.crew.now) c.loop-turn.turn c.next_word.result c.args.picks.now c.loop-turn.picks c.next_word.new.self
          c.loop-turn.invariant.picks c.next_word.ensures;
      order = picked_on (behaviour_of_members g.W.Worker.behaviour) pcg32 (length c.args.crew.now) c.loop-turn.turn at c.next_word.result c.args.picks.now c.loop-turn.picks
          c.next_word.new.self c.args.chip.now c.loop-turn.chip c.turn_at_home.new.chip c.args.crew.now c.loop-turn.crew _ c.turn_at_home.result
          c.loop-turn.invariant.order c.loop-turn.invariant.picks c.next_word.ensures (ap (λ (n : ℕ). c.next_word.result % n) stands.goes.count)
          (one_member g.W.Worker.behaviour c.loop-turn.chip c.loop-turn.crew at c.of.result c.index-crew-at.result c.turn_at_home.new.worker c.turn_at_home.new.chip c.turn_at_home.result
          stands.is_crew (mod-lt c.next_word.result some) c.of.ensures.gives c.turn_at_home.ensures.turned);
    }

pub returns : goal.returns
returns g c =
    let all : c.loop-turn.turn ≡ 1000 * length c.args.crew.now =
    let each = c.requires.crew.each in let gives = c.nue-ranks.ensures.gives in let about = ap (λ (s : SetupView). s.nue) c.setup.ensures.gives in
    omega (arith, c.loop-turn-test.false, c.loop-turn.auto.turn-end, each, gives, about) in
    let order = subst (λ (n : ℕ). TurnsOf (behaviour_of_members g.W.Worker.behaviour) (named_ranks pcg32 (length c.args.crew.now) n c.args.picks.now) c.args.chip.now c.args.crew.now c.loop-turn.chip c.loop-turn.crew) all
    c.loop-turn.invariant.order in
    record {
      picks = subst (λ (n : ℕ). c.loop-turn.picks ≡ generator_after pcg32 n c.args.picks.now) all c.loop-turn.invariant.picks;
      order = order;
      stands = turns_stand (behaviour_of_members g.W.Worker.behaviour) (named_ranks pcg32 (length c.args.crew.now) (1000 * length c.args.crew.now) c.args.picks.now) c.args.chip.now c.loop-turn.chip c.args.crew.now c.loop-turn.crew
          c.requires.crew order;
    }
