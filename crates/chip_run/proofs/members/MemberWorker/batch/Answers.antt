use Rattle.chip_run.proofs.MemberBatches.{batched_member}
use Rattle.chip_run.proofs.members.MemberWorker.batch.Goals as goal

pub returns-clause-took_batch : goal.returns-clause-took_batch
returns-clause-took_batch g c =
    batched_member g.W.Worker.behaviour c.args.self.now (g.P.Port.stepped (g.P.Port.sight c.args.port).seat) c.args.self.now.worker (g.P.Port.sight c.args.port) c.batch.new.self (g.P.Port.sight c.batch.result.1)
    c.batch.result.0 c.batch.ensures.took_batch
