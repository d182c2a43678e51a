use Rattle.plain_meaning.proofs.Orders.BarrierLaws.{plain_end_met}
use Rattle.plain_meaning.proofs.Collectives.CollectiveLaws.{plain_end_collectives}
use Rattle.plain_meaning.proofs.Runs.PlainLaws.{plain_end_still}
use Rattle.script_plain.proofs.steps.plain_run.Goals as goal

pub returns-clause-end : goal.returns-clause-end
returns-clause-end c = c.run_scripts.ensures.end

pub returns-clause-still : goal.returns-clause-still
returns-clause-still c = plain_end_still c.args.scripts.now

pub returns-clause-ranks : goal.returns-clause-ranks
returns-clause-ranks c = c.run_scripts.ensures.ranks

pub returns-clause-barriers : goal.returns-clause-barriers
returns-clause-barriers c = plain_end_met c.args.scripts.now

pub returns-clause-collectives : goal.returns-clause-collectives
returns-clause-collectives c = plain_end_collectives c.args.scripts.now c.acceptance_law.ensures.whole
