use Rattle.std.proofs.Common.{None, subst, sym}
use Rattle.rank_monitor.specs.Following.{MovesOn}
use Rattle.rank_monitor.specs.Steps.{move_of}
use Rattle.rank_monitor.specs.declared.steps.Step.{Step}
use Rattle.rank_monitor.proofs.works.Work.make.Goals as goal

pub returns-in-LookGather-clause-moves : goal.returns-in-LookGather-clause-moves
returns-in-LookGather-clause-moves c = subst (λ (s : Step). MovesOn c.args.self.now c.look_gather.new.self (move_of s) None) (sym c.in-LookGather.is) (c.look_gather.ensures.moves _)

pub returns-in-WriteRelease-clause-moves : goal.returns-in-WriteRelease-clause-moves
returns-in-WriteRelease-clause-moves c = subst (λ (s : Step). MovesOn c.args.self.now c.write_release.new.self (move_of s) c.write_release.result) (sym c.in-WriteRelease.is) (c.write_release.ensures.moves _ _ _)
