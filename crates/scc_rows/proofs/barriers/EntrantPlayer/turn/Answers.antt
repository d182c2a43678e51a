use Rattle.scc_rows.proofs.EntrantLemmas.{shown, ready_next, ready_anew}
use Rattle.scc_rows.proofs.barriers.EntrantPlayer.turn.Goals as goal

pub turn-requires : goal.turn-requires
turn-requires g c = record { stands = shown c.requires.stands.stands }

pub returns-then-self-eq0-clause-stands : goal.returns-then-self-eq0-clause-stands
returns-then-self-eq0-clause-stands g c = ready_next (g.P.Port.sight c.args.port.now) c.requires.stands c.in-Done.ensures.turned.same c.in-Done.ensures.stands

pub returns-else-self-eq0-clause-stands : goal.returns-else-self-eq0-clause-stands
returns-else-self-eq0-clause-stands g c = ready_anew c.requires.stands c.in-Done.ensures.stands c.in-Done.ensures.turned c.new-self.ensures.starts

pub returns-in-Waiting-clause-stands : goal.returns-in-Waiting-clause-stands
returns-in-Waiting-clause-stands g c = ready_next (g.P.Port.sight c.args.port.now) c.requires.stands c.in-Waiting.ensures.turned.same c.in-Waiting.ensures.stands

pub returns-in-Moved-clause-stands : goal.returns-in-Moved-clause-stands
returns-in-Moved-clause-stands g c = ready_next (g.P.Port.sight c.args.port.now) c.requires.stands c.in-Moved.ensures.turned.same c.in-Moved.ensures.stands
