use Rattle.std.proofs.Common.{◌≡◌, ℕ, length, List, [], ◌∷◌, refl, sym, subst, arith}
use Rattle.std.specs.List.{range_with_len}
use Rattle.chip_run.specs.Crews.{SweepStands}
use Rattle.chip_run.specs.Orders.{TurnsOf}
use Rattle.chip_run.proofs.CrewLaws.{sweep_first, sweep_on}
use Rattle.chip_run.proofs.OrderLaws.{one_turn, range_more, turns_then}
use Rattle.trace_run.proofs.SeenLaws.{still_both, still_first}
use Rattle.trace_run.proofs.crews.sweep.Goals as goal

pub turn_at-came-requires-clause-crew : goal.turn_at-came-requires-clause-crew
turn_at-came-requires-clause-crew g c = c.loop-at.invariant.swept.stands.is_crew

pub loop-at-init : goal.loop-at-init
loop-at-init g c = record { swept = sweep_first g.W.Worker.behaviour c.args.chip.now c.args.crew.now c.requires.crew; order = (refl, refl); seen = c.requires.seen; wanted = still_first (g.N.Witness.wanted_after c.args.witness) }

pub loop-at-preserved : goal.loop-at-preserved
loop-at-preserved g c = record {
  swept = sweep_on g.W.Worker.behaviour c.args.chip.now c.loop-at.chip c.turn_at-came.new.chip c.args.crew.now c.loop-at.crew c.turn_at-came.new.crew c.loop-at.at
      c.loop-at.so_far c.turn_at-came.result.0 c.and-so_far.result c.and-so_far.ensures.gives c.loop-at.invariant.swept c.turn_at-came.ensures.turned;
  order = subst (λ (l : List ℕ). TurnsOf g.W.Worker.behaviour l c.args.chip.now c.args.crew.now c.turn_at-came.new.chip c.turn_at-came.new.crew) (sym (range_more 0 c.loop-at.at c.loop-at.at (omega arith)))
      (turns_then g.W.Worker.behaviour (range_with_len 0 c.loop-at.at) (c.loop-at.at ∷ []) c.args.chip.now c.loop-at.chip c.turn_at-came.new.chip c.args.crew.now c.loop-at.crew c.turn_at-came.new.crew
      c.loop-at.invariant.order
      (one_turn g.W.Worker.behaviour c.loop-at.at c.loop-at.chip c.turn_at-came.new.chip c.loop-at.crew c.turn_at-came.new.crew c.turn_at-came.result.0 c.turn_at-came.ensures.turned));
  seen = c.turn_at-came.ensures.seen;
  wanted = still_both (g.N.Witness.wanted_after c.args.witness) (g.N.Witness.wanted_after c.loop-at.witness) (g.N.Witness.wanted_after c.turn_at-came.result.1) c.loop-at.invariant.wanted c.turn_at-came.ensures.wanted;
}

pub returns : goal.returns
returns g c =
    let all : c.loop-at.at ≡ length c.args.crew.now = omega (arith, c.loop-at-test.false, c.loop-at.auto.at-end) in
    record {
      swept = subst (λ (n : ℕ). SweepStands g.W.Worker.behaviour c.loop-at.so_far n c.args.chip.now c.args.crew.now c.loop-at.chip c.loop-at.crew) all c.loop-at.invariant.swept;
      order = subst (λ (n : ℕ). TurnsOf g.W.Worker.behaviour (range_with_len 0 n) c.args.chip.now c.args.crew.now c.loop-at.chip c.loop-at.crew) all c.loop-at.invariant.order;
      seen = c.loop-at.invariant.seen;
      wanted = c.loop-at.invariant.wanted;
    }
