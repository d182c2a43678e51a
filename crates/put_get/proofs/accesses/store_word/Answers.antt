use Rattle.put_get.proofs.StepLemmas.{steps_none, steps_one}
use Rattle.put_get.proofs.accesses.store_word.Goals as goal

pub returns-then-out-at-clause-steps : goal.returns-then-out-at-clause-steps
returns-then-out-at-clause-steps g c =
    steps_one g.P.Port.stepped (g.P.Port.sight c.args.port.now) (g.P.Port.sight c.store.new.self) _ c.store.ensures.did c.store.ensures.step

pub returns-else-out-at-clause-steps : goal.returns-else-out-at-clause-steps
returns-else-out-at-clause-steps g c = steps_none g.P.Port.stepped (g.P.Port.sight c.args.port.now)
