use Rattle.std.proofs.Common.{subst, sym}
use Rattle.scc_base.specs.declared.signals.Signal.{Signal}
use Rattle.scc_proto.specs.Moves.{RaiseSignal}
use Rattle.rank_monitor.specs.Following.{MovesOn}
use Rattle.rank_monitor.proofs.works.Work.raise.Goals as goal

pub returns-in-Sent-clause-moves : goal.returns-in-Sent-clause-moves
returns-in-Sent-clause-moves c = subst (λ (s : Signal). MovesOn c.args.self.now c.raise_sent.new.self (RaiseSignal s c.args.to) c.raise_sent.result) (sym c.in-Sent.is) c.raise_sent.ensures.moves

pub returns-in-Ready-clause-moves : goal.returns-in-Ready-clause-moves
returns-in-Ready-clause-moves c = subst (λ (s : Signal). MovesOn c.args.self.now c.raise_ready.new.self (RaiseSignal s c.args.to) c.raise_ready.result) (sym c.in-Ready.is) (c.raise_ready.ensures.moves c.args.to)
