use Rattle.chip_run.specs.Turns.{OneTurn}
use Rattle.run_rows.proofs.ring_turns.PasserWorker.batch.Goals as goal

pub returns-clause-took_batch : goal.returns-clause-took_batch
returns-clause-took_batch g c = OneTurn c.turn.ensures.turned
