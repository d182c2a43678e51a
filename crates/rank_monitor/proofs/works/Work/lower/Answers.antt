use Rattle.std.proofs.Common.{None, subst, sym}
use Rattle.scc_base.specs.declared.signals.Signal.{Signal}
use Rattle.scc_proto.specs.Moves.{LowerSignal}
use Rattle.rank_monitor.specs.Following.{MovesOn}
use Rattle.rank_monitor.proofs.works.Work.lower.Goals as goal

pub returns-in-Sent-clause-moves : goal.returns-in-Sent-clause-moves
returns-in-Sent-clause-moves c = subst (λ (s : Signal). MovesOn c.args.self.now c.lower_sent.new.self (LowerSignal s c.args.by) None) (sym c.in-Sent.is) c.lower_sent.ensures.moves

pub returns-in-Ready-clause-moves : goal.returns-in-Ready-clause-moves
returns-in-Ready-clause-moves c = subst (λ (s : Signal). MovesOn c.args.self.now c.lower_ready.new.self (LowerSignal s c.args.by) c.lower_ready.result) (sym c.in-Ready.is) (c.lower_ready.ensures.moves c.args.by)
