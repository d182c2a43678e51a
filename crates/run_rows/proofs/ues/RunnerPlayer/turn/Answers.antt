use Rattle.run_rows.proofs.RunnerLemmas.{did_events, tied_alone, tied_port}
use Rattle.run_rows.proofs.ues.RunnerPlayer.turn.Goals as goal

pub turn-answer-requires : goal.turn-answer-requires
turn-answer-requires g c = record { tied = tied_port (g.P.Port.sight c.args.port.now) c.args.self.now.ue c.requires.stands }

pub returns : goal.returns
returns g c = record {
  stands = tied_alone (g.P.Port.sight c.turn-answer.new.port) c.turn-answer.new.self c.turn-answer.ensures.tied;
  did = did_events c.turn-answer.ensures.turned;
}
