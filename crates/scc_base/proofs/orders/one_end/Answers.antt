use Rattle.scc_base.proofs.Confluence as confluence
use Rattle.scc_base.proofs.orders.one_end.Goals as goal

pub returns : goal.returns
returns g c = let steps = g.S.OwnedSteps in record { law = confluence.one_end steps.step steps.only_one steps.either_order }
