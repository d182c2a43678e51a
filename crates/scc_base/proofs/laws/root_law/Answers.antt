use Rattle.scc_base.proofs.GroupFacts.{root_with, root_place, root_within}
use Rattle.scc_base.proofs.SplitLaws.{one_root}
use Rattle.scc_base.proofs.laws.root_law.Goals as goal

pub returns : goal.returns
returns c = record { grouped = root_with; first = root_place; lowest = root_within; once = one_root }
