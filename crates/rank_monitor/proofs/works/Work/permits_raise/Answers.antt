use Rattle.std.proofs.Common.{subst, sym}
use Rattle.scc_base.specs.declared.signals.Signal.{Signal}
use Rattle.scc_proto.specs.Moves.{RaiseSignal}
use Rattle.rank_monitor.specs.Following.{Decides}
use Rattle.rank_monitor.proofs.works.Work.permits_raise.Goals as goal

pub returns-in-Sent : goal.returns-in-Sent
returns-in-Sent c = record { decides = subst (λ (s : Signal). Decides c.args.self.now (RaiseSignal s c.args.to) c.may_raise.result) (sym c.in-Sent.is) c.may_raise.ensures.decides }

pub returns-in-Ready : goal.returns-in-Ready
returns-in-Ready c = record { decides = subst (λ (s : Signal). Decides c.args.self.now (RaiseSignal s c.args.to) c.has_taken.result) (sym c.in-Ready.is) c.has_taken.ensures.decides }
