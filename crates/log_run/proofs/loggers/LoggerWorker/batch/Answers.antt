use Rattle.chip_run.specs.Turns.{OneTurn}
use Rattle.log_run.proofs.loggers.LoggerWorker.batch.Goals as goal

pub returns-clause-took_batch : goal.returns-clause-took_batch
returns-clause-took_batch g c = OneTurn c.turn.ensures.turned
