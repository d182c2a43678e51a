use Rattle.scc_base.proofs.Confluence as confluence
use Rattle.scc_base.proofs.orders.any_first.Goals as goal

pub returns : goal.returns
returns g c = let steps = g.S.OwnedSteps in record { law = confluence.any_first steps.step steps.only_one steps.either_order steps.is_end steps.still }
