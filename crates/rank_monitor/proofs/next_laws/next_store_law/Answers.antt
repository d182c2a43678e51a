use Rattle.rank_monitor.proofs.NextLaws.{beside_permitted, store_named, store_offered}
use Rattle.rank_monitor.proofs.next_laws.next_store_law.Goals as goal

pub returns-clause-others : goal.returns-clause-others
returns-clause-others c = λ size rec move. store_named size rec.notes rec.flips rec.held rec.heap rec.calls rec.stage rec.post move

pub returns-clause-offered : goal.returns-clause-offered
returns-clause-offered c = λ size rec move. store_offered size rec.notes rec.flips rec.held rec.heap rec.calls rec.stage rec.post move

pub returns-clause-beside : goal.returns-clause-beside
returns-clause-beside c = λ size by rec. beside_permitted size rec.notes rec.flips rec.held rec.heap rec.calls by rec.stage rec.post
