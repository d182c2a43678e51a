use Rattle.std.proofs.Common.{subst, sym}
use Rattle.scc_base.specs.declared.signals.Signal.{Signal}
use Rattle.scc_proto.specs.Moves.{LowerSignal}
use Rattle.rank_monitor.specs.Following.{Decides}
use Rattle.rank_monitor.proofs.works.Work.permits_lower.Goals as goal

pub returns-in-Sent : goal.returns-in-Sent
returns-in-Sent c = record { decides = subst (λ (s : Signal). Decides c.args.self.now (LowerSignal s c.args.by) c.may_take.result) (sym c.in-Sent.is) c.may_take.ensures.decides }

pub returns-in-Ready : goal.returns-in-Ready
returns-in-Ready c = record { decides = subst (λ (s : Signal). Decides c.args.self.now (LowerSignal s c.args.by) c.may_go_on.result) (sym c.in-Ready.is) c.may_go_on.ensures.decides }
