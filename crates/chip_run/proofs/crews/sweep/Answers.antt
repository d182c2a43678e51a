use Rattle.std.proofs.Common.{◌≡◌, ℕ, ◌<◌, length, ap, refl, subst, arith}
use Rattle.std.specs.List.{range_with_len}
use Rattle.scc_base.specs.Setups.{SetupView}
use Rattle.chip_run.specs.Away.{behaviour_of_members}
use Rattle.chip_run.specs.Crews.{SweepStands}
use Rattle.chip_run.specs.Orders.{TurnsOf}
use Rattle.chip_run.proofs.CrewHands.{ties_here}
use Rattle.chip_run.proofs.CrewLaws.{sweep_first, sweep_on}
use Rattle.chip_run.proofs.MemberLaws.{members_free, one_member}
use Rattle.chip_run.proofs.OrderLaws.{turns_next}
use Rattle.chip_run.proofs.crews.sweep.Goals as goal

pub turn_at_home-came-requires : goal.turn_at_home-came-requires
turn_at_home-came-requires g c =
    let is_crew = c.loop-at.invariant.swept.stands.is_crew in
    let each = c.requires.crew.each in let gives = c.nue-ranks.ensures.gives in let about = ap (λ (s : SetupView). s.nue) c.setup.ensures.gives in
    let low : c.loop-at.at < length c.loop-at.crew = omega (arith, c.loop-at-test.true, c.loop-at.auto.at-end, c.loop-at.invariant.swept.stands.goes.count, each, gives, about) in
    record {
      whole = is_crew.whole;
      below = let is = c.of.ensures.gives in let each = is_crew.each in omega (arith, low, is, each);
      free = members_free g.W.Worker.behaviour g.met.W.Worker.hands c.loop-at.chip c.loop-at.crew c.index-crew-at.result c.of.result is_crew;
      ties = (ties_here (behaviour_of_members g.W.Worker.behaviour) c.loop-at.chip c.loop-at.crew c.loop-at.at c.of.result c.index-crew-at.result is_crew low c.of.ensures.gives).ties;
    }

pub loop-at-init : goal.loop-at-init
loop-at-init g c = record { swept = sweep_first (behaviour_of_members g.W.Worker.behaviour) c.args.chip.now c.args.crew.now c.requires.crew; order = (refl, refl) }

pub loop-at-preserved : goal.loop-at-preserved
loop-at-preserved g c =
    let stands = c.loop-at.invariant.swept.stands in
    let each = c.requires.crew.each in let gives = c.nue-ranks.ensures.gives in let about = ap (λ (s : SetupView). s.nue) c.setup.ensures.gives in
    let low : c.loop-at.at < length c.loop-at.crew = omega (arith, c.loop-at-test.true, c.loop-at.auto.at-end, stands.goes.count, each, gives, about) in
    let turn = one_member g.W.Worker.behaviour c.loop-at.chip c.loop-at.crew c.loop-at.at c.of.result c.index-crew-at.result c.turn_at_home-came.new.worker c.turn_at_home-came.new.chip
    c.turn_at_home-came.result stands.is_crew low c.of.ensures.gives c.turn_at_home-came.ensures.turned in
    record {
      swept = sweep_on (behaviour_of_members g.W.Worker.behaviour) c.args.chip.now c.loop-at.chip c.turn_at_home-came.new.chip c.args.crew.now c.loop-at.crew _ c.loop-at.at
          c.loop-at.so_far c.turn_at_home-came.result c.and-so_far.result c.and-so_far.ensures.gives c.loop-at.invariant.swept turn;
      order = turns_next (behaviour_of_members g.W.Worker.behaviour) c.loop-at.at c.args.chip.now c.loop-at.chip c.turn_at_home-came.new.chip c.args.crew.now c.loop-at.crew _ c.turn_at_home-came.result
          c.loop-at.invariant.order turn;
    }

pub returns : goal.returns
returns g c =
    let each = c.requires.crew.each in let gives = c.nue-ranks.ensures.gives in let about = ap (λ (s : SetupView). s.nue) c.setup.ensures.gives in
    let all : c.loop-at.at ≡ length c.args.crew.now = omega (arith, c.loop-at-test.false, c.loop-at.auto.at-end, each, gives, about) in
    record {
      swept = subst (λ (n : ℕ). SweepStands (behaviour_of_members g.W.Worker.behaviour) c.loop-at.so_far n c.args.chip.now c.args.crew.now c.loop-at.chip c.loop-at.crew) all c.loop-at.invariant.swept;
      order = subst (λ (n : ℕ). TurnsOf (behaviour_of_members g.W.Worker.behaviour) (range_with_len 0 n) c.args.chip.now c.args.crew.now c.loop-at.chip c.loop-at.crew) all c.loop-at.invariant.order;
    }
