use Rattle.scc_base.proofs.SplitLaws.{grouped}
use Rattle.scc_base.proofs.laws.groups_law.Goals as goal

pub returns : goal.returns
returns c = record { law = grouped }
