use Rattle.std.proofs.Common.{subst, sym}
use Rattle.scc_mesh.specs.Scenes.{about_in}
use Rattle.chip_run.specs.Turns.{TurnedAtHome}
use Rattle.chip_run.specs.declared.rests.Rest.{Rest}
use Rattle.chip_run.proofs.HomeTurns.{turned_at_home}
use Rattle.trace_run.proofs.turns.turn_at_home.Goals as goal

pub returns : goal.returns
returns g c = record {
  turned = subst
      (λ (came : Rest). TurnedAtHome g.W.Worker.behaviour c.args.chip.now c.args.rank c.args.worker.now c.own_turn-answer.new.chip c.own_turn-answer.new.worker came)
      (sym c.of.ensures.gives)
      (turned_at_home g.W.Worker.behaviour c.args.chip.now c.own_turn-answer.new.chip c.args.rank c.args.worker.now c.own_turn-answer.new.worker c.own_turn-answer.result.0 c.is_stopped.result
      c.requires.free c.own_turn-answer.ensures.turned c.agrees.ensures.beyond (c.is_stopped.ensures.tells (about_in c.args.chip.now) c.args.rank));
  seen = c.own_turn-answer.ensures.seen;
  wanted = c.own_turn-answer.ensures.wanted;
}
