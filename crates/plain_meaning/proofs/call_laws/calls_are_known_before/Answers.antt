use Rattle.std.specs.Prelude.{None}
use Rattle.script_machine.specs.Local.{local_start}
use Rattle.plain_meaning.proofs.OwnWays.CallListLaws.{calls_did}
use Rattle.plain_meaning.proofs.call_laws.calls_are_known_before.Goals as goal

pub returns : goal.returns
returns c = record { law = λ script rank u last calls did. calls_did u last (local_start script rank) None calls did }
