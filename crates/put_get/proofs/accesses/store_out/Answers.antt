use Rattle.put_get.proofs.StepLemmas.{steps_none}
use Rattle.put_get.proofs.accesses.store_out.Goals as goal

pub returns-in_default-clause-steps : goal.returns-in_default-clause-steps
returns-in_default-clause-steps g c = steps_none g.P.Port.stepped (g.P.Port.sight c.args.port.now)
