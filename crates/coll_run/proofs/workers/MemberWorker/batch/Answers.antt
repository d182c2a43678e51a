use Rattle.chip_run.specs.Turns.{OneTurn}
use Rattle.coll_run.proofs.workers.MemberWorker.batch.Goals as goal

pub returns-clause-took_batch : goal.returns-clause-took_batch
returns-clause-took_batch g c = OneTurn c.turn.ensures.turned
