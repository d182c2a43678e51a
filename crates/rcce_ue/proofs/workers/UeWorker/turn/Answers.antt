use Rattle.std.proofs.Common.{refl}
use Rattle.rcce_ue.proofs.WorkerTurns.{stands_there, ue_turned}
use Rattle.rcce_ue.proofs.workers.UeWorker.turn.Goals as goal

pub turn-answer-requires : goal.turn-answer-requires
turn-answer-requires g c = record { tied = c.requires.ties.tied (g.P.Port.sight c.args.port) refl refl refl }

pub returns-clause-ties : goal.returns-clause-ties
returns-clause-ties g c = stands_there c.turn-answer.new.self (g.P.Port.sight c.turn-answer.new.port) c.turn-answer.ensures.tied

pub returns-clause-turned : goal.returns-clause-turned
returns-clause-turned g c =
    ue_turned g.P.Port.stepped c.args.self.now (g.P.Port.sight c.args.port) (g.P.Port.sight c.turn-answer.new.port) c.turn-answer.new.self c.turn-answer.result
    (c.requires.ties.tied (g.P.Port.sight c.args.port) refl refl refl) c.turn-answer.ensures.tied c.turn-answer.ensures.turned c.turn-answer.ensures.steps
