use Rattle.std.proofs.Common.{Option, subst, sym, ◌∙◌}
use Rattle.call_tap.specs.declared.taps.Tap.{Tap}
use Rattle.chip_run.specs.Turns.{Turned}
use Rattle.log_run.specs.Loggers.{IsTapped}
use Rattle.log_run.proofs.LoggerLaws.{turned_logged}
use Rattle.log_run.proofs.loggers.LoggerWorker.turn.Goals as goal

pub new-requires : goal.new-requires
new-requires g c = record {
  read = subst (λ (t : Option Tap). IsTapped t (g.P.Port.sight c.args.port).seat.setup (g.P.Port.sight c.args.port).seat.rank (g.P.Port.sight c.args.port).events)
      (sym c.take.ensures.value ∙ c.in-Some.is) c.requires.ties.tapped;
}

pub turn-answer-requires : goal.turn-answer-requires
turn-answer-requires g c = record {
  ties = subst (λ x. g.W.Worker.behaviour.tied c.args.self.now.worker (g.P.Port.sight x).seat.setup (g.P.Port.sight x).seat.rank (g.P.Port.sight x).events) (sym c.new.ensures.port) c.requires.ties.ties;
}

pub returns-clause-ties : goal.returns-clause-ties
returns-clause-ties g c = record {
  ties = subst (λ x. g.W.Worker.behaviour.tied c.turn-answer.new.self (g.P.Port.sight x).seat.setup (g.P.Port.sight x).seat.rank (g.P.Port.sight x).events) (sym c.apart-tap.ensures.port) c.turn-answer.ensures.ties;
  tapped = c.apart-tap.ensures.read;
}

pub returns-clause-turned : goal.returns-clause-turned
returns-clause-turned g c =
    turned_logged g.W.Worker.behaviour _ _ _ c.args.self.now.worker (g.P.Port.sight c.args.port) c.turn-answer.new.self (g.P.Port.sight c.apart-tap.result.1) c.turn-answer.result.0
    (subst (λ x. Turned g.W.Worker.behaviour (g.P.Port.stepped (g.P.Port.sight c.args.port).seat) c.args.self.now.worker (g.P.Port.sight c.args.port) c.turn-answer.new.self (g.P.Port.sight x) c.turn-answer.result.0) (sym c.apart-tap.ensures.port)
    (subst (λ x. Turned g.W.Worker.behaviour (g.P.Port.stepped (g.P.Port.sight x).seat) c.args.self.now.worker (g.P.Port.sight x) c.turn-answer.new.self (g.P.Port.sight c.turn-answer.result.1.port) c.turn-answer.result.0) c.new.ensures.port
    c.turn-answer.ensures.turned))
