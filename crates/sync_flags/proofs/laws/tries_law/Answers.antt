use Rattle.sync_flags.proofs.FailedLemmas.{try_failed}
use Rattle.sync_flags.proofs.laws.tries_law.Goals as goal

pub returns : goal.returns
returns c = record { says = try_failed }
