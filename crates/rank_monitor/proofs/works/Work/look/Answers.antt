use Rattle.std.proofs.Common.{None, subst, sym}
use Rattle.scc_base.specs.declared.signals.Signal.{Signal}
use Rattle.scc_proto.specs.Moves.{LookSignal}
use Rattle.rank_monitor.specs.Following.{MovesOn}
use Rattle.rank_monitor.specs.Steps.{look_of}
use Rattle.rank_monitor.proofs.works.Work.look.Goals as goal

pub returns-in-Sent-clause-moves : goal.returns-in-Sent-clause-moves
returns-in-Sent-clause-moves c = subst (λ (s : Signal). MovesOn c.args.self.now c.look_sent.new.self (LookSignal s (look_of c.args.look.now)) None) (sym c.in-Sent.is) c.look_sent.ensures.moves

pub returns-in-Ready-clause-moves : goal.returns-in-Ready-clause-moves
returns-in-Ready-clause-moves c = subst (λ (s : Signal). MovesOn c.args.self.now c.look_ready.new.self (LookSignal s (look_of c.args.look.now)) None) (sym c.in-Ready.is) c.look_ready.ensures.moves
