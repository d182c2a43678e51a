use Rattle.std.proofs.Common.{sym, ap, ◌∙◌}
use Rattle.send_recv.specs.declared.answers.RecvTurn.{RecvTurn}
use Rattle.rcce_ue.specs.Passing.{ue_after_receive, told_by_receive}
use Rattle.rcce_ue.proofs.ues.Ue.settle_receive.Goals as goal

-- Names the goal, so that the prover rejects a wrong body at once, without a search.
pub returns-in-Moved-clause-leaves : goal.returns-in-Moved-clause-leaves
returns-in-Moved-clause-leaves g c = sym (ap (λ (a : RecvTurn). ue_after_receive a c.args.self.now) c.in-Moved.is)

pub returns-in-Waiting-clause-tells : goal.returns-in-Waiting-clause-tells
returns-in-Waiting-clause-tells g c = sym (ap told_by_receive c.in-Waiting.is)

pub returns-in-Done-clause-leaves : goal.returns-in-Done-clause-leaves
returns-in-Done-clause-leaves g c = c.receive.ensures ∙ sym (ap (λ (a : RecvTurn). ue_after_receive a c.args.self.now) c.in-Done.is)
