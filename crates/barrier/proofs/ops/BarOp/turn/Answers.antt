use Rattle.std.proofs.Common.{ap, sym, ◌∙◌}
use Rattle.barrier.specs.Stages.{BarAt}
use Rattle.barrier.proofs.StageLemmas.{turn_nothing}
use Rattle.barrier.proofs.ops.BarOp.turn.Goals as goal

pub returns-in-Finished-clause-turned : goal.returns-in-Finished-clause-turned
returns-in-Finished-clause-turned g c = turn_nothing c.requires.stands (sym (ap (λ (x : BarAt). x.stage) c.self.view_is) ∙ c.in-Finished.is)
